use Rattle.flat.proofs.fields.+first_field.Given as goal

abbrev pub decreases-first_field : goal.decreases-first_field
decreases-first_field l = l.levels

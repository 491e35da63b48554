use Rattle.arrays.specs.Prelude.{depth, field_of, kind_of_field}
use Rattle.flat.proofs.named.+push_field.Given as goal

abbrev pub decreases-push_field : goal.decreases-push_field
decreases-push_field l = depth (kind_of_field (field_of l.field.now))

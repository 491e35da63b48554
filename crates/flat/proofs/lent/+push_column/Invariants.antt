use Rattle.arrays.specs.Prelude.{depth, field_of, kind_of_field}
use Rattle.flat.proofs.lent.+push_column.Given as goal

abbrev pub decreases-push_column : goal.decreases-push_column
decreases-push_column l = depth (kind_of_field (field_of l.field.now))

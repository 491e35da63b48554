-- The schema of a batch.
use Rattle.std.specs.Prelude.{List}
use Rattle.std.specs.Arc.{arc_value}
use Rattle.types.specs.Shape.{FieldShape}
use Rattle.arrays.specs.declared.batch.schema.Owner.{Owner}
use Rattle.arrays.specs.declared.batch.schema.Owner.TheVariants as owner
use Rattle.arrays.specs.declared.batch.schema.BatchSchema.TheInside.{Inside}

abbrev pub fields_of_owner : Owner → List FieldShape
fields_of_owner (owner.One s) = s
fields_of_owner (owner.Many s) = arc_value s

abbrev pub show_schema : Inside → List FieldShape
show_schema s = fields_of_owner s.owner

use Rattle.std.proofs.Common.{◌≡◌, take}
use Rattle.arrays.specs.Prelude.{fields_of}
use Rattle.table.specs.Stored.{stored_fields}
use Rattle.table.proofs.stored.stored_all.Given as goal

abbrev pub invariant-loop-field : goal.invariant-loop-field
invariant-loop-field l = fields_of l.stored.items ≡ stored_fields (fields_of (take l.field-index l.fields))

use Rattle.std.proofs.Common.{◌≡◌, take}
use Rattle.arrays.specs.Prelude.{fields_of}
use Rattle.table.proofs.widening.wider_fields.Given as goal

abbrev pub invariant-loop-one : goal.invariant-loop-one
invariant-loop-one l = fields_of l.wider.items ≡ fields_of (take l.one-index l.fields)

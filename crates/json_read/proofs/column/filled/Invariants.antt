use Rattle.std.proofs.Common.{◌≡◌, false}
use Rattle.json_read.specs.Prelude.{ReadsSlots, flags_in, overflows, spelling_of, values_in}
use Rattle.json_read.proofs.column.filled.Given as goal

-- the slots so far are read
abbrev pub invariant-loop-index : goal.invariant-loop-index
invariant-loop-index g l =
    (g.B.ColumnBuilder.kind l.column ≡ g.B.ColumnBuilder.kind l.fn.builder)
    × ReadsSlots (spelling_of (g.B.ColumnBuilder.kind l.fn.builder)) (flags_in l.slots) (values_in l.slots) l.index (g.B.ColumnBuilder.items l.column)
    × (overflows (spelling_of (g.B.ColumnBuilder.kind l.fn.builder)) (g.B.ColumnBuilder.items l.column) ≡ false)

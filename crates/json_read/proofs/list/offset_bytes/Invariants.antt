use Rattle.std.proofs.Common.{◌≡◌, ℤ, List}
use Rattle.json_base.specs.Prelude.{ReadsFirst, items_view}
use Rattle.json_read.specs.JsonList.{SpellsOffset, offset_bytes}
use Rattle.json_read.proofs.list.offset_bytes.Given as goal

-- the offsets so far are read
abbrev pub invariant-loop-index : goal.invariant-loop-index
invariant-loop-index l = (numbers : List ℤ) × ReadsFirst (SpellsOffset l.fn.width) (items_view l.offsets) l.index numbers × (l.bytes.items ≡ offset_bytes l.fn.width numbers)

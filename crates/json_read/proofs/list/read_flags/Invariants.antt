use Rattle.json_base.specs.Prelude.{ReadsFirst, items_view}
use Rattle.json_read.specs.ListBuffers.{IsFlag}
use Rattle.json_read.proofs.list.read_flags.Given as goal

-- the flags so far are read
abbrev pub invariant-loop-index : goal.invariant-loop-index
invariant-loop-index l = ReadsFirst IsFlag (items_view l.flags) l.index l.validity

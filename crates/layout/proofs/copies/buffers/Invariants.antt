use Rattle.std.proofs.Common.{◌≡◌, take}
use Rattle.layout.proofs.copies.buffers.Given as goal

-- the buffers so far have their copies
abbrev pub invariant-loop-position : goal.invariant-loop-position
invariant-loop-position l = l.copied.items ≡ take l.position-index l.buffers

use Rattle.std.proofs.Common.{ℕ, ◌<◌}
use Rattle.std.specs.Str.{IsCharBoundary}
use Rattle.layout.specs.Offsets.{start_at}
use Rattle.layout.proofs.contents.are_texts.Given as goal

-- the slots before begin where a character does
abbrev pub invariant-loop-edge : goal.invariant-loop-edge
invariant-loop-edge l = (k : ℕ) → k < l.edge → IsCharBoundary l.bytes (start_at l.width l.offsets k)

use Rattle.std.proofs.Common.{◌≡◌, ◌+◌, ◌++◌, length, map}
use Rattle.answers.specs.Masks.{ones_of}
use Rattle.answers.proofs.mask.push_ones.Given as goal

-- The places so far, and those of the ones that are left, are those of all ones.
abbrev pub invariant-loop-left : goal.invariant-loop-left
invariant-loop-left l = l.places.items ++ map (λ i. l.first + i) (ones_of l.left) ≡ l.fn.places.items ++ map (λ i. l.first + i) (ones_of l.word)

abbrev pub decreases-loop-left : goal.decreases-loop-left
decreases-loop-left l = length (ones_of l.left)

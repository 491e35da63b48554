use Rattle.std.proofs.Common.{◌≡◌, ◌+◌, ◌*◌, ◌++◌, filter, map}
use Rattle.std.specs.List.{range_with_len}
use Rattle.answers.specs.Masks.{is_set}
use Rattle.answers.proofs.mask.push_places.Given as goal

-- The places of the words so far.
abbrev pub invariant-loop-w : goal.invariant-loop-w
invariant-loop-w l = l.places.items ≡ l.fn.places.items ++ map (λ i. l.first + i) (filter (is_set l.mask.validity l.mask.values) (range_with_len 0 (64 * l.w)))

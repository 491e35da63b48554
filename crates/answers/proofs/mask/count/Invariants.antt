use Rattle.std.proofs.Common.{◌≡◌, ◌*◌, ◌≤◌, take, count_by}
use Rattle.answers.proofs.MaskLemmas.{reported}
use Rattle.answers.proofs.mask.count.Given as goal

-- The words so far are counted.
abbrev pub invariant-loop-w : goal.invariant-loop-w
invariant-loop-w l = record {
  counted : l.count ≡ count_by (λ b. b) (take (64 * l.w) (reported l.mask.validity l.mask.values));
  few : l.count ≤ 64 * l.w;
}

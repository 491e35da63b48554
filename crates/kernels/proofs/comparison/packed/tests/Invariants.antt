use Rattle.std.proofs.Common.{◌≡◌, ◌+◌, ◌<◌, ℕ, get_or, length}
use Rattle.std.specs.Int.{from_bool}
use Rattle.std.specs.Ordering.{int_cmp}
use Rattle.kernels.proofs.comparison.packed.tests.Given as goal

-- the flags before the place are set where they should be
abbrev pub invariant-loop-j : goal.invariant-loop-j
invariant-loop-j g l = record {
  size : length l.flags ≡ 64;
  flags : (k : ℕ) → k < l.j → get_or l.flags k 0 ≡ from_bool (g.T.Test.holds (int_cmp (g.A.Side.number l.a (l.i + k)) (g.B.Side.number l.b (l.i + k))));
}

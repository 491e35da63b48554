use Rattle.std.proofs.Common.{◌*◌}
use Rattle.arrays.specs.Prelude.{valid_in}
use Rattle.kernels.specs.Computed.{AreResults, result_at}
use Rattle.kernels.proofs.arithmetic.numbers.Given as goal

-- the words so far have results
abbrev pub invariant-loop-w : goal.invariant-loop-w
invariant-loop-w g l =
    let ty = g.T.Integer.ty in
    AreResults ty (result_at g.O.Operation.exact (g.A.Side.number l.a) (g.B.Side.number l.b)) (valid_in l.valid) (64 * l.w) l.numbers.items

use Rattle.std.proofs.Common.{◌≡◌, false, length}
use Rattle.kernels.specs.Computed.{AreRows, result_at}
use Rattle.kernels.proofs.arithmetic.write_rows.Given as goal

-- the slots so far are written, unless one is outside
abbrev pub invariant-loop-j : goal.invariant-loop-j
invariant-loop-j g l =
    let exact = result_at g.O.Operation.exact (g.A.Side.number l.a) (g.B.Side.number l.b) in
    record {
      size : length l.rows ≡ 64;
      rows : l.outside ≡ false → AreRows g.T.Integer.ty exact l.start l.j l.rows;
    }

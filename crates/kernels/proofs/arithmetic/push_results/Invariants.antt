use Rattle.std.proofs.Common.{◌≡◌, ◌++◌}
use Rattle.kernels.specs.Computed.{AreOutside, bytes_of_results, result_at}
use Rattle.kernels.proofs.arithmetic.push_results.Given as goal

-- the slots so far are reported, and their results added
abbrev pub invariant-loop-j : goal.invariant-loop-j
invariant-loop-j g l =
    let ty = g.T.Integer.ty in
    let exact = result_at g.O.Operation.exact (g.A.Side.number l.a) (g.B.Side.number l.b) in
    record {
      numbers : l.numbers.items ≡ l.fn.numbers.items ++ bytes_of_results ty exact l.start l.j;
      outside : AreOutside ty exact l.start l.j l.outside;
    }

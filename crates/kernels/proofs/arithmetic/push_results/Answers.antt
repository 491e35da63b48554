use Rattle.std.proofs.Common.{◌+◌, ◌++◌, ◌∙◌, ap, arith, is_some, not, sym, subst}
use Rattle.std.proofs.lemmas.List.{append-nil}
use Rattle.arrays.specs.Prelude.{IsOfType, is_of_type}
use Rattle.arrays.proofs.RangeLemmas.{IsOfType-from_test}
use Rattle.colbits.proofs.BitLemmas.{bits-zero}
use Rattle.kernels.specs.Computed.{result_or_zero, result_at}
use Rattle.kernels.proofs.CheckedLemmas.{AreOutside-more, bytes_of_results-none, present, is_of_type-result_or_zero, pushed_is, results_grown}
use Rattle.kernels.proofs.arithmetic.push_results.Goals as goal

pub loop-j-init : goal.loop-j-init
loop-j-init g c =
    let ty = g.T.Integer.ty in
    let exact = result_at g.O.Operation.exact (g.A.Side.number c.args.a.now) (g.B.Side.number c.args.b.now) in
    let old = c.args.numbers.now.items in
    record {
      numbers = sym (ap (λ more. old ++ more) (bytes_of_results-none ty exact c.args.start) ∙ append-nil old);
      outside = record { each = bits-zero (λ k. not (is_of_type ty (exact (c.args.start + k)))) };
    }

pub push-requires : goal.push-requires
push-requires g c =
    let ty = g.T.Integer.ty in
    let exact = result_at g.O.Operation.exact (g.A.Side.number c.args.a.now) (g.B.Side.number c.args.b.now) in
    let j = c.args.start + c.loop-j.j in
    let number = c.exact_number-number in
    let reported = present ty exact j number.result number.ensures.some number.ensures.none in
    subst (IsOfType ty) (sym (pushed_is ty exact j number.result c.unwrap_or.result reported c.unwrap_or.ensures)) (IsOfType-from_test ty (result_or_zero ty exact j) (is_of_type-result_or_zero ty exact j))

pub loop-j-preserved : goal.loop-j-preserved
loop-j-preserved g c =
    let ty = g.T.Integer.ty in
    let exact = result_at g.O.Operation.exact (g.A.Side.number c.args.a.now) (g.B.Side.number c.args.b.now) in
    let start = c.args.start in
    let j = c.loop-j.j in
    let number = c.exact_number-number in
    let reported = present ty exact (start + j) number.result number.ensures.some number.ensures.none in
    record {
      numbers =
          results_grown ty exact start j c.args.numbers.now.items c.loop-j.numbers.items c.push.new.numbers.items _ c.loop-j.invariant.numbers c.in_ok-push.ensures.ok
          (pushed_is ty exact (start + j) number.result c.unwrap_or.result reported c.unwrap_or.ensures);
      outside =
          AreOutside-more ty exact start j c.loop-j.outside c.from.result (is_some number.result) c.is_none.result (omega arith) c.from.ensures c.is_none.ensures reported.outside
          c.loop-j.invariant.outside;
    }

use Rattle.std.proofs.Common.{ap, arith, inr, refl}
use Rattle.std.proofs.lemmas.Result.{err_from_is_err_and}
use Rattle.arrays.specs.Prelude.{SizedColumn, total}
use Rattle.arrays.proofs.SizeLemmas.{small}
use Rattle.arrays.proofs.LaidLemmas.{within-push}
use Rattle.arrays.proofs.builder.lists.ListBuilder.push.Goals as goal

pub returns-in_err-push-clause-fault : goal.returns-in_err-push-clause-fault
returns-in_err-push-clause-fault c =
    let s = c.self.inside in
    let p = err_from_is_err_and c.from_residual.result c.from_residual.ensures.1 in
    let same = ap (λ (q : SizedColumn). total q.lengths) c.self.view_is in
    rw (p.1, p.2) (inr (refl, within-push c.args.self.now.lengths c.args.items (omega (arith, c.if-unwrap_or-total.false, c.unwrap_or.ensures, c.total.ensures, same, small (total s.slots.lengths) c.self.invariant))))

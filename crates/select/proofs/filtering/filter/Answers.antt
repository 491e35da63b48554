use Rattle.std.proofs.Common.{◌≡◌, inl, inr, length, arith, sym}
use Rattle.std.proofs.lemmas.Result.{IfErr-weaker, IfOk-weaker}
use Rattle.select.proofs.SelectionLemmas.{filter_fault-none}
use Rattle.select.proofs.filtering.filter.Goals as goal

pub returns : goal.returns
returns c =
    let s = c.args.view.now in
    let mask = c.args.mask.now in
    let same : length mask.items ≡ length s.items = omega (arith, c.len.ensures, c.len-2.ensures, c.if-len.false) in
    let none = filter_fault-none s mask (sym c.in-Bool.ensures) same in
    record {
      ok = IfOk-weaker c.keep_true.result _ _ (λ r is. (none, is)) c.keep_true.ensures.ok;
      err = IfErr-weaker c.keep_true.result _ _ (λ e reported. elim reported [ inl h ↦ inr (inr (h.0, (none, h.1))) | inr h ↦ inr (inl (h, none)) ]) c.keep_true.ensures.err;
    }

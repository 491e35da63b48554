use Rattle.std.proofs.Common.{◌∙◌, inl, inr, option_map, ap, sym}
use Rattle.std.proofs.lemmas.Result.{IfErr-weaker, IfOk-weaker}
use Rattle.arrays.specs.Lengths.{is_too_big}
use Rattle.select.specs.Selection.{outside}
use Rattle.select.specs.declared.fault.SelectFault.TheVariants.{IndexOutOfRange}
use Rattle.select.proofs.ChosenLemmas.{chosen-same}
use Rattle.select.proofs.SelectionLemmas.{indices_fault-int, take_fault-int}
use Rattle.select.proofs.taking.take_at.Goals as goal

pub returns : goal.returns
returns g c =
    let s = c.args.view.now in
    let indices = c.args.indices.now in
    let none = take_fault-int s indices g.T.Integer.ty c.requires ∙ ap (λ n. option_map (λ row. IndexOutOfRange row) (outside n indices.items)) (sym c.slots.ensures.count) ∙ ap (option_map (λ row. IndexOutOfRange row)) c.in_ok-rows.ensures.inside in
    record {
      ok = IfOk-weaker c.gather.result _ _ (λ r is. (none, is ∙ chosen-same s.kind _ _ s (c.in_ok-rows.ensures.rows s.items) (λ h. c.in_ok-rows.ensures.rows s.codes))) c.gather.ensures.ok;
      err =
          IfErr-weaker c.gather.result _ _
          (λ e reported. elim reported [
            | inl h ↦ inr (inr (h.0, (none, ap (is_too_big s.kind) (sym (c.in_ok-rows.ensures.rows s.items)) ∙ h.1)))
            | inr h ↦ inr (inl (h, indices_fault-int indices g.T.Integer.ty c.requires))
          ])
          c.gather.ensures.err;
    }

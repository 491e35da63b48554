use Rattle.std.proofs.Common.{◌∙◌, ap, false, inl, inr, length, refl, sym, true}
use Rattle.std.proofs.lemmas.Result.{IfErr-weaker, IfOk-weaker}
use Rattle.arrays.specs.Prelude.{is_past, joined_items, view_kind}
use Rattle.select.specs.Joined.{is_content_too_big, is_joined_too_big, joined}
use Rattle.select.proofs.JoinLemmas.{fault-of, first-kind, kinds-of, or-left, or-right}
use Rattle.select.proofs.joining.concat.Goals as goal

pub returns-then-not-are_of-clause-err : goal.returns-then-not-are_of-clause-err
returns-then-not-are_of-clause-err c =
    let views = c.args.views.now in
    let first = first-kind views c.index-views-0.result c.requires c.index-views-0.is ∙ sym c.ty-ty.ensures in
    inl (fault-of views (view_kind c.ty-ty.result) false first c.if-not-are_of.ensures)

pub join-requires-clause-kinds : goal.join-requires-clause-kinds
join-requires-clause-kinds c = kinds-of c.args.views.now (view_kind c.ty-ty.result) (sym c.if-not-are_of.ensures)

pub returns-in-Some : goal.returns-in-Some
returns-in-Some c =
    let views = c.args.views.now in
    let k = view_kind c.ty-ty.result in
    let first = first-kind views c.index-views-0.result c.requires c.index-views-0.is ∙ sym c.ty-ty.ensures in
    let none = fault-of views k true first c.if-not-are_of.ensures in
    record {
      ok = IfOk-weaker c.join.result _ _ (λ r is. (none, is ∙ ap (λ k. joined k views) (sym first))) c.join.ensures.ok;
      err =
          IfErr-weaker c.join.result _ _
          (λ e reported. elim reported [
            | inl h ↦ inr (inr (h.0, (none, ap (λ k. is_joined_too_big k views) first ∙ or-right (is_past (length (joined_items views))) (is_content_too_big k views) h.1)))
            | inr h ↦ inr (inl (h, none))
          ])
          c.join.ensures.err;
    }

pub returns-in-None-clause-err : goal.returns-in-None-clause-err
returns-in-None-clause-err c =
    let views = c.args.views.now in
    let k = view_kind c.ty-ty.result in
    let first = first-kind views c.index-views-0.result c.requires c.index-views-0.is ∙ sym c.ty-ty.ensures in
    let none = fault-of views k true first c.if-not-are_of.ensures in
    inr (inr (refl, (none, ap (λ k. is_joined_too_big k views) first ∙ or-left (is_past (length (joined_items views))) (is_content_too_big k views) c.in-None.ensures.none)))

use Rattle.std.proofs.Common.{◌∙◌, All, Some, ap, length, refl, subst, sym}
use Rattle.std.proofs.lemmas.Result.{IfOk-weaker}
use Rattle.arrays.specs.Prelude.{Seen, inner_items, is_past, is_too_big}
use Rattle.select.specs.Prelude.{IsInner, IsPick, first_rows, picked}
use Rattle.select.proofs.ChosenLemmas.{items-chosen, kind-chosen}
use Rattle.select.proofs.JoinLemmas.{full-more, or-left, or-right, too_big-list}
use Rattle.select.proofs.ListLemmas.{all-lists, each-within, full_of_all, picked-each}
use Rattle.select.proofs.joining.lists.child_of.Goals as goal

pub spread_out-requires : goal.spread_out-requires
spread_out-requires c =
    subst (λ m. All (IsPick m) (first_rows c.new-all.result.count)) (sym c.lists-lists.ensures.slots)
    (each-within c.args.view.now.items (first_rows c.new-all.result.count) c.new-all.result.count refl (c.new-all.ensures ∙ c.slots.ensures.count))

pub returns-in_err-spread-clause-err : goal.returns-in_err-spread-clause-err
returns-in_err-spread-clause-err c =
    let s = c.args.view.now in
    let child = c.lists-lists.result.child in
    let all = picked-each s.items (first_rows c.new-all.result.count) c.new-all.result.count refl (c.new-all.ensures ∙ c.slots.ensures.count) in
    full_of_all c.from_residual.result c.in_err-spread.field-0.0 _ _ c.from_residual.ensures.1 c.in_err-spread.ensures.err
    (λ past.
    too_big-list s.kind child.kind s.items c.lists-lists.ensures.value.kind
    ∙ or-left (is_past (length (inner_items s.items))) (is_too_big child.kind (inner_items s.items)) (ap (λ l. is_past (length (inner_items l))) (sym (ap (λ l. picked l (first_rows c.new-all.result.count)) c.lists-lists.ensures.items ∙ all)) ∙ past))

pub returns-clause-ok : goal.returns-clause-ok
returns-clause-ok c =
    let s = c.args.view.now in
    let lists = c.lists-lists.result in
    let child = lists.child in
    let rows = c.in_ok-spread.spread.rows in
    let all = picked-each s.items (first_rows c.new-all.result.count) c.new-all.result.count refl (c.new-all.ensures ∙ c.slots.ensures.count) in
    let kept : IsInner child.kind = record { no_dict = c.lists-lists.ensures.no_dict; shallow = c.lists-lists.ensures.depth } in
    IfOk-weaker c.gather_picks.result _ _
    (λ r is.
    let same = ap (λ (q : Seen). q.kind) is ∙ kind-chosen child.kind (λ items. picked items rows) child in
    record {
      kind = c.lists-lists.ensures.value.kind ∙ ap Some (sym same);
      items = ap (λ (q : Seen). q.items) is ∙ items-chosen child.kind (λ items. picked items rows) child ∙ c.in_ok-spread.ensures.rows ∙ ap inner_items (ap (λ l. picked l (first_rows c.new-all.result.count)) c.lists-lists.ensures.items ∙ all);
      lists = all-lists lists.offsets child s c.lists-lists.ensures.value;
      inner = subst IsInner (sym same) kept;
    })
    c.gather_picks.ensures.ok

pub returns-clause-err : goal.returns-clause-err
returns-clause-err c =
    let s = c.args.view.now in
    let child = c.lists-lists.result.child in
    let all = picked-each s.items (first_rows c.new-all.result.count) c.new-all.result.count refl (c.new-all.ensures ∙ c.slots.ensures.count) in
    full-more c.gather_picks.result _ (is_too_big s.kind s.items)
    (λ big.
    too_big-list s.kind child.kind s.items c.lists-lists.ensures.value.kind
    ∙ or-right (is_past (length (inner_items s.items))) (is_too_big child.kind (inner_items s.items))
    (ap (is_too_big child.kind) (sym (c.in_ok-spread.ensures.rows ∙ ap inner_items (ap (λ l. picked l (first_rows c.new-all.result.count)) c.lists-lists.ensures.items ∙ all))) ∙ big))
    c.gather_picks.ensures.err

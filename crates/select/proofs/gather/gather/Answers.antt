use Rattle.std.proofs.Common.{◌≡◌, ◌∙◌, All, ap, length, map, subst, sym}
use Rattle.std.proofs.lemmas.Bool.{or_right}
use Rattle.arrays.specs.Prelude.{field_of, inner_items, is_past, is_too_big, item_kind, items_of_lists, kind_of_field, list_length}
use Rattle.arrays.proofs.ShapeLemmas.{kind_of_field-field_of}
use Rattle.select.specs.Picked.{IsPick, picked}
use Rattle.select.proofs.ChosenLemmas.{item-is, list-kind}
use Rattle.select.proofs.GatherLemmas.{kind_finished, lists_finished, total_finished}
use Rattle.select.proofs.JoinLemmas.{too_big-list}
use Rattle.select.proofs.ListLemmas.{full_of_all}
use Rattle.select.proofs.gather.gather.Goals as goal

pub finish-requires-clause-total : goal.finish-requires-clause-total
finish-requires-clause-total g c =
    total_finished c.lists-lists.result.child c.in_ok-child-in-List.child (picked (items_of_lists c.lists-lists.result) (g.R.Rows.picks c.args.rows.now)) c.in_ok-spread-in-List.spread.rows c.in_ok-spread-in-List.spread.lists.lengths
    c.in_ok-spread-in-List.ensures.lengths c.in_ok-spread-in-List.ensures.rows c.in_ok-child-in-List.ensures.ok

pub finish-requires-clause-kind : goal.finish-requires-clause-kind
finish-requires-clause-kind g c =
    let child = c.lists-lists.result.child in
    let item = c.in-List.item.now in
    let same : kind_of_field (field_of item) ≡ child.kind =
    kind_of_field-field_of item ∙ item-is _ child.kind (ap item_kind c.in-List.ensures ∙ c.lists-lists.ensures.value.kind) in
    sym (kind_of_field-field_of c.in_ok-copy-in-List.field-0)
    ∙ ap kind_of_field c.in_ok-copy-in-List.ensures
    ∙ same
    ∙ sym (kind_finished child c.in_ok-child-in-List.child c.in_ok-spread-in-List.spread.rows c.in_ok-child-in-List.ensures.ok)

pub returns-in_ok-finish-in-List-clause-ok : goal.returns-in_ok-finish-in-List-clause-ok
returns-in_ok-finish-in-List-clause-ok g c =
    let lists = c.lists-lists.result in
    let same = c.lists-lists.ensures.items in
    let picks = g.R.Rows.picks c.args.rows.now in
    c.in_ok-finish-in-List.ensures
    ∙ lists_finished c.in-List.width c.in_ok-spread-in-List.spread.lists.width lists.offsets c.args.view.now lists.child c.in_ok-child-in-List.child (g.R.Rows.picks c.args.rows.now) c.in_ok-spread-in-List.spread.rows c.in_ok-spread-in-List.spread.lists.lengths
    c.lists-lists.ensures.value (list-kind c.in-List.width c.args.view.now.kind _ lists.child.kind c.in-List.ensures c.lists-lists.ensures.value.kind) c.in_ok-spread-in-List.ensures.width c.requires (c.in_ok-spread-in-List.ensures.lengths ∙ ap (λ l. map list_length (picked l picks)) same)
    (c.in_ok-spread-in-List.ensures.rows ∙ ap (λ l. inner_items (picked l picks)) same) c.in_ok-child-in-List.ensures.ok

pub spread_out-requires : goal.spread_out-requires
spread_out-requires g c = subst (λ m. All (IsPick m) (g.R.Rows.picks c.args.rows.now)) (sym c.lists-lists.ensures.slots) c.requires

pub returns-in_err-child-in-List-clause-err : goal.returns-in_err-child-in-List-clause-err
returns-in_err-child-in-List-clause-err g c =
    let lists = c.lists-lists.result in
    let picks = g.R.Rows.picks c.args.rows.now in
    let items = picked c.args.view.now.items picks in
    full_of_all c.from_residual-in_err-child-in-List.result c.in_err-child-in-List.field-0.0 _ _ c.from_residual-in_err-child-in-List.ensures.1 c.in_err-child-in-List.ensures.err
    (λ big.
    too_big-list c.args.view.now.kind lists.child.kind items c.lists-lists.ensures.value.kind
    ∙ or_right (is_past (length (inner_items items))) (is_too_big lists.child.kind (inner_items items))
    (ap (is_too_big lists.child.kind) (sym (c.in_ok-spread-in-List.ensures.rows ∙ ap (λ l. inner_items (picked l picks)) c.lists-lists.ensures.items)) ∙ big))

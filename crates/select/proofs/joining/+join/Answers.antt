use Rattle.std.proofs.Common.{◌∙◌, ◌<◌, ap, length, subst, sym}
use Rattle.arrays.specs.Prelude.{Seen, SizedColumn, depth, joined_items, kind_of, kind_of_field, out-Field, same_kind, total, view_kind}
use Rattle.arrays.specs.Kind as kind
use Rattle.arrays.proofs.ShapeLemmas.{kind_of_field-field_of}
use Rattle.select.specs.Joined.{is_content_too_big, joined}
use Rattle.select.proofs.JoinLemmas.{child-shown, child-too_big, lists-joined}
use Rattle.select.proofs.ListLemmas.{full_of_all, total-lengths}
use Rattle.select.proofs.joining.+join.Goals as goal

pub returns-in_err-child-in-List-clause-err : goal.returns-in_err-child-in-List-clause-err
returns-in_err-child-in-List-clause-err n c =
    let k = kind_of (out-Field c.in-List.item.now).ty in
    let parts = c.deref-in-List-2.ensures.value ∙ c.in_ok-parts-in-List.ensures ∙ c.deref.ensures.value in
    full_of_all c.from_residual-in_err-child-in-List.result c.in_err-child-in-List.field-0.0 _ _ c.from_residual-in_err-child-in-List.ensures.1 c.in_err-child-in-List.ensures.err
    (λ big.
    ap (λ t. is_content_too_big (view_kind t) c.args.views.now) c.in-List.is
    ∙ child-too_big c.in-List.width k (view_kind c.of.result) c.args.views.now c.deref-in-List-2.result.now c.in_ok-children-in-List.children.items c.in_ok-children-in-List.ensures.ok c.requires.some parts c.of.ensures big)

pub finish-requires : goal.finish-requires
finish-requires n c =
    let item = c.in-List.item.now in
    let k = kind_of (out-Field item).ty in
    let views = c.args.views.now in
    let are = c.in_ok-children-in-List.ensures.ok in
    let parts = c.deref-in-List-2.ensures.value ∙ c.in_ok-parts-in-List.ensures ∙ c.deref.ensures.value in
    let is = child-shown k (view_kind c.of.result) views c.deref-in-List-2.result.now c.in_ok-children-in-List.children.items c.in_ok-child-in-List.child are c.requires.some parts c.of.ensures c.in_ok-child-in-List.ensures.ok in
    record {
      total =
          ap total (ap (λ (q : SizedColumn). q.lengths) c.lengths-in-List.view_is ∙ c.in_ok-lengths-in-List.ensures.ok)
          ∙ total-lengths (joined_items views)
          ∙ ap (λ (q : Seen). length q.items) (sym is);
      kind =
          sym (kind_of_field-field_of c.in_ok-copy-in-List.field-0)
          ∙ ap kind_of_field c.in_ok-copy-in-List.ensures
          ∙ kind_of_field-field_of item
          ∙ ap (λ (q : Seen). q.kind) (sym is);
      no_dict = ap (λ (q : Seen). same_kind q.kind kind.dict) is ∙ (are.inner c.requires.some).no_dict;
      depth = subst (λ (q : Seen). depth q.kind < 8) (sym is) (are.inner c.requires.some).shallow;
    }

pub returns-in_ok-finish-in-List-clause-ok : goal.returns-in_ok-finish-in-List-clause-ok
returns-in_ok-finish-in-List-clause-ok n c =
    let k = kind_of (out-Field c.in-List.item.now).ty in
    let views = c.args.views.now in
    let children = c.in_ok-children-in-List.children.items in
    let are = c.in_ok-children-in-List.ensures.ok in
    let parts = c.deref-in-List-2.ensures.value ∙ c.in_ok-parts-in-List.ensures ∙ c.deref.ensures.value in
    let is = child-shown k (view_kind c.of.result) views c.deref-in-List-2.result.now children c.in_ok-child-in-List.child are c.requires.some parts c.of.ensures c.in_ok-child-in-List.ensures.ok in
    c.in_ok-finish-in-List.ensures
    ∙ lists-joined c.in-List.width c.lengths-in-List.inside.slots.width k views children c.lengths-in-List.inside.slots.lengths c.in_ok-child-in-List.child are
    (ap (λ (q : SizedColumn). q.width) c.lengths-in-List.view_is ∙ c.in_ok-lengths-in-List.ensures.width) (ap (λ (q : SizedColumn). q.lengths) c.lengths-in-List.view_is ∙ c.in_ok-lengths-in-List.ensures.ok) is
    ∙ ap (λ t. joined (view_kind t) views) (sym c.in-List.is)

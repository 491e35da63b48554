use Rattle.std.proofs.Common.{◌≡◌, ◌∙◌, IfOk, ap, subst}
use Rattle.types.specs.declared.data_type.Field.{Field}
use Rattle.types.specs.Kind as kind
use Rattle.types.specs.Kind.{kind_of}
use Rattle.layout.specs.Prelude.{Reading, Seen}
use Rattle.arrays.proofs.ListArrays.{read_lists, read_over, show_read_lists}
use Rattle.arrays.proofs.array.Array.from_list.Goals as goal

pub plain-requires : goal.plain-requires
plain-requires c =
    let child = c.args.child in
    let is_list = c.of_lists.ensures.kind ∙ ap (λ (f : Field). kind.lists c.args.slots.width (kind_of f.ty)) c.in_ok-new.ensures.ok ∙ ap (kind.lists c.args.slots.width) c.requires.kind in
    let same = read_over _ (kind.lists c.args.slots.width child.kind) _ c.args.slots.len _ _ _ c.in_ok-into_raw.field-0 child is_list c.from.ensures c.in_ok-vec.ensures.items c.in_ok-vec-2.ensures.items c.in_ok-into_raw.ensures in
    ap (λ (r : Reading). r.fault) same
    ∙ read_lists c.args.slots.width c.args.slots.len c.args.slots.validity c.args.slots.offsets child c.requires.short c.requires.validity c.requires.offsets c.requires.no_dict c.requires.depth

pub returns : goal.returns
returns c =
    let child = c.args.child in
    let is_list = c.of_lists.ensures.kind ∙ ap (λ (f : Field). kind.lists c.args.slots.width (kind_of f.ty)) c.in_ok-new.ensures.ok ∙ ap (kind.lists c.args.slots.width) c.requires.kind in
    let same = read_over _ (kind.lists c.args.slots.width child.kind) _ c.args.slots.len _ _ _ c.in_ok-into_raw.field-0 child is_list c.from.ensures c.in_ok-vec.ensures.items c.in_ok-vec-2.ensures.items c.in_ok-into_raw.ensures in
    subst (λ (s : Seen). IfOk c.plain.result (λ a. a ≡ s)) (ap (λ (r : Reading). r.seen) same ∙ show_read_lists c.args.slots.width c.args.slots.len c.args.slots.validity c.args.slots.offsets child) c.plain.ensures

use Rattle.std.proofs.Common.{length, subst, sym}
use Rattle.types.specs.Kind.{kind_of}
use Rattle.types.specs.declared.data_type.Field.{out-Field}
use Rattle.layout.specs.Prelude.{AreOffsets, list, list_of, of_slot}
use Rattle.layout.proofs.OffsetParts.{ends_within}
use Rattle.arrays.specs.Values.{HasLists}
use Rattle.arrays.proofs.PartLemmas.{child_of_view, child_there, list_kind, lists_of_view, some_list}
use Rattle.arrays.proofs.SlotLemmas.{items-seen}
use Rattle.arrays.proofs.view.View.lists.Goals as goal

pub unreachable-requires : goal.unreachable-requires
unreachable-requires c = some_list c.self.inside c.args.self.now c.self.view_is c.in_default.not-List c.requires

pub bounds-children-0 : goal.bounds-children-0
bounds-children-0 c = child_there c.in-List.width (kind_of (out-Field c.in-List._item.now).ty) c.self.inside c.args.self.now c.self.view_is (list_kind c.self.inside c.args.self.now c.in-List.width c.in-List._item c.self.view_is c.in-List.is) c.self.invariant.lawful

pub child_view-child-requires-clause-lawful : goal.child_view-child-requires-clause-lawful
child_view-child-requires-clause-lawful c =
    (child_of_view c.in-List.width (kind_of (out-Field c.in-List._item.now).ty) c.self.inside c.args.self.now c.index-children-0.result c.self.view_is (list_kind c.self.inside c.args.self.now c.in-List.width c.in-List._item c.self.view_is c.in-List.is) c.self.invariant.lawful c.index-children-0.is).lawful

pub child_view-child-requires-clause-plain : goal.child_view-child-requires-clause-plain
child_view-child-requires-clause-plain c =
    (child_of_view c.in-List.width (kind_of (out-Field c.in-List._item.now).ty) c.self.inside c.args.self.now c.index-children-0.result c.self.view_is (list_kind c.self.inside c.args.self.now c.in-List.width c.in-List._item c.self.view_is c.in-List.is) c.self.invariant.lawful c.index-children-0.is).plain

pub new-requires-clause-enough : goal.new-requires-clause-enough
new-requires-clause-enough c =
    (lists_of_view c.in-List.width (kind_of (out-Field c.in-List._item.now).ty) c.self.inside c.args.self.now c.child_view-child.result c.index-children-0.result c.bytes_at-first.result.now c.slots-slots.result c.self.view_is (list_kind c.self.inside c.args.self.now c.in-List.width c.in-List._item c.self.view_is c.in-List.is) c.self.invariant.lawful
    c.self.invariant.within c.index-children-0.is c.child_view-child.ensures c.bytes_at-first.ensures c.slots-slots.ensures.count).there.enough

pub new-requires-clause-counted : goal.new-requires-clause-counted
new-requires-clause-counted c =
    (lists_of_view c.in-List.width (kind_of (out-Field c.in-List._item.now).ty) c.self.inside c.args.self.now c.child_view-child.result c.index-children-0.result c.bytes_at-first.result.now c.slots-slots.result c.self.view_is (list_kind c.self.inside c.args.self.now c.in-List.width c.in-List._item c.self.view_is c.in-List.is) c.self.invariant.lawful
    c.self.invariant.within c.index-children-0.is c.child_view-child.ensures c.bytes_at-first.ensures c.slots-slots.ensures.count).there.counted

pub invariant_of-result : goal.invariant_of-result
invariant_of-result c =
    let n = c.slots-slots.result in
    let child = c.child_view-child.result in
    let view =
    (lists_of_view c.in-List.width (kind_of (out-Field c.in-List._item.now).ty) c.self.inside c.args.self.now c.child_view-child.result c.index-children-0.result c.bytes_at-first.result.now c.slots-slots.result c.self.view_is (list_kind c.self.inside c.args.self.now c.in-List.width c.in-List._item c.self.view_is c.in-List.is) c.self.invariant.lawful
    c.self.invariant.within c.index-children-0.is c.child_view-child.ensures c.bytes_at-first.ensures c.slots-slots.ensures.count) in
    let bounds : AreOffsets n c.new.result (length child.items) =
    subst (λ m. AreOffsets m c.new.result (length child.items)) (sym c.slots-slots.ensures.count)
    (subst (λ o. AreOffsets (length c.args.self.now.items) o (length child.items)) (sym c.new.ensures.offsets) view.lists.bounds) in
    record {
      bounds = bounds;
      ends = ends_within n c.new.result (length child.items) bounds;
      short = c.slots-slots.ensures.short;
      child_short = view.short;
    }

pub returns-clause-value : goal.returns-clause-value
returns-clause-value c =
    subst (λ o. HasLists o c.child_view-child.result c.args.self.now) (sym c.new.ensures.offsets)
    (lists_of_view c.in-List.width (kind_of (out-Field c.in-List._item.now).ty) c.self.inside c.args.self.now c.child_view-child.result c.index-children-0.result c.bytes_at-first.result.now c.slots-slots.result c.self.view_is (list_kind c.self.inside c.args.self.now c.in-List.width c.in-List._item c.self.view_is c.in-List.is) c.self.invariant.lawful
    c.self.invariant.within c.index-children-0.is c.child_view-child.ensures c.bytes_at-first.ensures c.slots-slots.ensures.count).lists

pub returns-clause-items : goal.returns-clause-items
returns-clause-items c =
    let has : HasLists c.new.result c.child_view-child.result c.args.self.now =
    subst (λ o. HasLists o c.child_view-child.result c.args.self.now) (sym c.new.ensures.offsets)
    (lists_of_view c.in-List.width (kind_of (out-Field c.in-List._item.now).ty) c.self.inside c.args.self.now c.child_view-child.result c.index-children-0.result c.bytes_at-first.result.now c.slots-slots.result c.self.view_is (list_kind c.self.inside c.args.self.now c.in-List.width c.in-List._item c.self.view_is c.in-List.is) c.self.invariant.lawful
    c.self.invariant.within c.index-children-0.is c.child_view-child.ensures c.bytes_at-first.ensures c.slots-slots.ensures.count).lists in
    items-seen (λ j. list (list_of (of_slot c.new.result c.child_view-child.result.items j))) c.validity-validity.result c.slots-slots.result c.args.self.now has.lists c.validity-validity.ensures
    c.slots-slots.ensures.count

pub returns-clause-no_dict : goal.returns-clause-no_dict
returns-clause-no_dict c =
    (lists_of_view c.in-List.width (kind_of (out-Field c.in-List._item.now).ty) c.self.inside c.args.self.now c.child_view-child.result c.index-children-0.result c.bytes_at-first.result.now c.slots-slots.result c.self.view_is (list_kind c.self.inside c.args.self.now c.in-List.width c.in-List._item c.self.view_is c.in-List.is) c.self.invariant.lawful
    c.self.invariant.within c.index-children-0.is c.child_view-child.ensures c.bytes_at-first.ensures c.slots-slots.ensures.count).no_dict

pub returns-clause-depth : goal.returns-clause-depth
returns-clause-depth c =
    (lists_of_view c.in-List.width (kind_of (out-Field c.in-List._item.now).ty) c.self.inside c.args.self.now c.child_view-child.result c.index-children-0.result c.bytes_at-first.result.now c.slots-slots.result c.self.view_is (list_kind c.self.inside c.args.self.now c.in-List.width c.in-List._item c.self.view_is c.in-List.is) c.self.invariant.lawful
    c.self.invariant.within c.index-children-0.is c.child_view-child.ensures c.bytes_at-first.ensures c.slots-slots.ensures.count).depth

use Rattle.std.proofs.Common.{◌∙◌, ◌+◌, ◌-◌, ◌∷◌, [], drop, map, subst, sym, ap, arith}
use Rattle.std.proofs.lemmas.List.{map-append}
use Rattle.serde_json.specs.Data.{array, object, no_members}
use Rattle.serde_json.specs.View.{view, items_of, members_view}
use Rattle.serde_json.proofs.Views.{view-Array, view-Object}
use Rattle.json_scan.specs.Spelling.{SpellsAt, SpellsItems, SpellsMembers}
use Rattle.json_scan.proofs.Arrays.{ItemsTo, array_spells, empty_array_spells, another_item, all_items}
use Rattle.json_scan.proofs.Objects.{MembersTo, object_spells, empty_object_spells, another_member, all_members}
use Rattle.json_scan.proofs.Trees.{items_viewed}
use Rattle.json_scan.proofs.tree.+trees.Goals as goal

pub read_array_value-returns-in-Some-clause-ok : goal.read_array_value-returns-in-Some-clause-ok
read_array_value-returns-in-Some-clause-ok t c =
    let d = c.args.text.now in
    let ys = drop c.in-Some.end d in
    subst (λ v. SpellsAt c.args.depth (drop c.args.at d) v ys) (sym (view-Array c.new.result ∙ ap (λ vs. array (items_of (map view vs))) c.new.ensures.items))
    (empty_array_spells c.args.depth d c.args.at ys (omega arith) (omega arith) (omega arith) (rw c.as_bytes.ensures.value at c.in-Some.ensures.reads))

pub read_array_value-items-preserved : goal.read_array_value-items-preserved
read_array_value-items-preserved t c =
    let d = c.args.text.now in
    let item = c.in_ok-item in
    let mark = c.in_ok-mark in
    let more =
    another_item (c.args.depth - 1) (drop (c.args.at + 1) d) (drop c.items.next d) (drop item.item.end d) (drop mark.mark.end d) (map view c.items.values.items) (view item.item.value) c.items.invariant.so_far item.ensures.ok
    (rw c.in-Comma.is at mark.ensures.ok) in
    record {
      onward = omega (arith, c.items.invariant.onward, item.ensures.onward, mark.ensures.onward);
      within = mark.ensures.within;
      so_far = subst (λ ds. ItemsTo (c.args.depth - 1) (drop (c.args.at + 1) d) ds (drop mark.mark.end d)) (sym (map-append view c.items.values.items (item.item.value ∷ [])) ∙ ap (map view) (sym c.in_ok-push.ensures)) more;
    }

pub read_array_value-returns-in-End-clause-ok : goal.read_array_value-returns-in-End-clause-ok
read_array_value-returns-in-End-clause-ok t c =
    let d = c.args.text.now in
    let item = c.in_ok-item in
    let mark = c.in_ok-mark in
    let ys = drop mark.mark.end d in
    let all =
    all_items (c.args.depth - 1) (drop (c.args.at + 1) d) (drop c.items.next d) (drop item.item.end d) ys (map view c.items.values.items) (view item.item.value) c.items.invariant.so_far item.ensures.ok
    (rw c.in-End.is at mark.ensures.ok) in
    let items = subst (λ ds. SpellsItems (c.args.depth - 1) (drop (c.args.at + 1) d) ds ys) (items_viewed c.items.values.items item.item.value ∙ ap (λ vs. items_of (map view vs)) (sym c.in_ok-push.ensures)) all in
    subst (λ v. SpellsAt c.args.depth (drop c.args.at d) v ys) (sym (view-Array c.push.new.values)) (array_spells c.args.depth d c.args.at _ ys (omega arith) (omega arith) (omega arith) items)

pub read_object_value-returns-in-Some-clause-ok : goal.read_object_value-returns-in-Some-clause-ok
read_object_value-returns-in-Some-clause-ok t c =
    let d = c.args.text.now in
    let ys = drop c.in-Some.end d in
    subst (λ v. SpellsAt c.args.depth (drop c.args.at d) v ys) (sym (view-Object c.new.result ∙ ap (λ ms. object (members_view ms)) c.new.ensures.empty))
    (empty_object_spells c.args.depth d c.args.at ys (omega arith) (omega arith) (omega arith) (rw c.as_bytes.ensures.value at c.in-Some.ensures.reads))

pub read_object_value-members-preserved : goal.read_object_value-members-preserved
read_object_value-members-preserved t c =
    let d = c.args.text.now in
    let key = c.in_ok-key in
    let member = c.in_ok-member in
    let mark = c.in_ok-mark in
    let found = members_view c.members.values.entries in
    let more =
    another_member (c.args.depth - 1) (drop (c.args.at + 1) d) (drop c.members.next d) (drop key.key.end d) (drop member.member.end d) (drop mark.mark.end d) key.key.value.now (view member.member.value) no_members found c.members.invariant.so_far
    key.ensures.reads member.ensures.ok (rw c.in-Comma.is at mark.ensures.ok) in
    record {
      onward = omega (arith, c.members.invariant.onward, key.ensures.onward, member.ensures.onward, mark.ensures.onward);
      within = mark.ensures.within;
      so_far = subst (λ ms. MembersTo (c.args.depth - 1) (drop (c.args.at + 1) d) no_members ms (drop mark.mark.end d)) (sym c.in-Ok.ensures.ok) more;
    }

pub read_object_value-returns-in-End-clause-ok : goal.read_object_value-returns-in-End-clause-ok
read_object_value-returns-in-End-clause-ok t c =
    let d = c.args.text.now in
    let key = c.in_ok-key in
    let member = c.in_ok-member in
    let mark = c.in_ok-mark in
    let ys = drop mark.mark.end d in
    let found = members_view c.members.values.entries in
    let all =
    all_members (c.args.depth - 1) (drop (c.args.at + 1) d) (drop c.members.next d) (drop key.key.end d) (drop member.member.end d) ys key.key.value.now (view member.member.value) no_members found c.members.invariant.so_far
    key.ensures.reads member.ensures.ok (rw c.in-End.is at mark.ensures.ok) in
    let members = subst (λ ms. SpellsMembers (c.args.depth - 1) (drop (c.args.at + 1) d) no_members ms ys) (sym c.in-Ok.ensures.ok) all in
    subst (λ v. SpellsAt c.args.depth (drop c.args.at d) v ys) (sym (view-Object c.put.new.map)) (object_spells c.args.depth d c.args.at _ ys (omega arith) (omega arith) (omega arith) members)

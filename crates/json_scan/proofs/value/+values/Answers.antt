use Rattle.std.proofs.Common.{◌∙◌, ◌+◌, ◌-◌, [], drop, sym, arith}
use Rattle.std.proofs.lemmas.Option.{IfSome_then}
use Rattle.serde_json.specs.Data.{string, array, object, no_items, no_members}
use Rattle.json_scan.proofs.Arrays.{array_spells, empty_array_spells, no_items_yet, another_item, all_items}
use Rattle.json_scan.proofs.Objects.{object_spells, empty_object_spells, no_members_yet, another_member, all_members}
use Rattle.json_scan.proofs.Strings.{string_spells}
use Rattle.json_scan.proofs.Values.{respaced}
use Rattle.json_scan.proofs.value.+values.Goals as goal

pub pass_array-returns-in-Some-clause-reads : goal.pass_array-returns-in-Some-clause-reads
pass_array-returns-in-Some-clause-reads t c =
    (array no_items, empty_array_spells c.args.depth c.args.text.now c.args.at (drop c.in-Some.end c.args.text.now) (omega arith) c.requires.bracket.0 c.requires.bracket.1 c.in-Some.ensures.reads)

pub pass_array-items-init : goal.pass_array-items-init
pass_array-items-init t c = record { onward = omega arith; within = omega arith; so_far = ([], no_items_yet (c.args.depth - 1) (drop (c.args.at + 1) c.args.text.now)) }

pub pass_array-items-preserved : goal.pass_array-items-preserved
pass_array-items-preserved t c =
    let d = c.args.text.now in
    let s = c.items.invariant.so_far in
    let v = c.in_ok-end.ensures.reads in
    let mark = c.in_ok-mark in
    let next = rw c.in-Comma.is at mark.ensures.reads in
    record {
      onward = omega (arith, c.items.invariant.onward, c.in_ok-end.ensures.onward, mark.ensures.onward);
      within = mark.ensures.within;
      so_far = (_, another_item (c.args.depth - 1) (drop (c.args.at + 1) d) (drop c.items.next d) (drop c.in_ok-end.end d) (drop mark.mark.end d) s.0 v.0 s.1 v.1 next);
    }

pub pass_array-returns-in-End-clause-reads : goal.pass_array-returns-in-End-clause-reads
pass_array-returns-in-End-clause-reads t c =
    let d = c.args.text.now in
    let s = c.items.invariant.so_far in
    let v = c.in_ok-end.ensures.reads in
    let ys = drop c.in_ok-mark.mark.end d in
    let all = all_items (c.args.depth - 1) (drop (c.args.at + 1) d) (drop c.items.next d) (drop c.in_ok-end.end d) ys s.0 v.0 s.1 v.1 (rw c.in-End.is at c.in_ok-mark.ensures.reads) in
    (_, array_spells c.args.depth d c.args.at _ ys (omega arith) c.requires.bracket.0 c.requires.bracket.1 all)

pub pass_object-returns-in-Some-clause-reads : goal.pass_object-returns-in-Some-clause-reads
pass_object-returns-in-Some-clause-reads t c =
    (object no_members, empty_object_spells c.args.depth c.args.text.now c.args.at (drop c.in-Some.end c.args.text.now) (omega arith) c.requires.brace.0 c.requires.brace.1 c.in-Some.ensures.reads)

pub pass_object-members-init : goal.pass_object-members-init
pass_object-members-init t c = record { onward = omega arith; within = omega arith; so_far = (no_members, no_members_yet (c.args.depth - 1) (drop (c.args.at + 1) c.args.text.now) no_members) }

pub pass_object-members-preserved : goal.pass_object-members-preserved
pass_object-members-preserved t c =
    let d = c.args.text.now in
    let s = c.members.invariant.so_far in
    let k = c.in_ok-value.ensures.reads in
    let v = c.in_ok-end.ensures.reads in
    let mark = c.in_ok-mark in
    let next = rw c.in-Comma.is at mark.ensures.reads in
    record {
      onward = omega (arith, c.members.invariant.onward, c.in_ok-value.ensures.onward, c.in_ok-end.ensures.onward, mark.ensures.onward);
      within = mark.ensures.within;
      so_far = (_, another_member (c.args.depth - 1) (drop (c.args.at + 1) d) (drop c.members.next d) (drop c.in_ok-value.value d) (drop c.in_ok-end.end d) (drop mark.mark.end d) k.0 v.0 no_members s.0 s.1 k.1 v.1 next);
    }

pub pass_object-returns-in-End-clause-reads : goal.pass_object-returns-in-End-clause-reads
pass_object-returns-in-End-clause-reads t c =
    let d = c.args.text.now in
    let s = c.members.invariant.so_far in
    let k = c.in_ok-value.ensures.reads in
    let v = c.in_ok-end.ensures.reads in
    let ys = drop c.in_ok-mark.mark.end d in
    let all = all_members (c.args.depth - 1) (drop (c.args.at + 1) d) (drop c.members.next d) (drop c.in_ok-value.value d) (drop c.in_ok-end.end d) ys k.0 v.0 no_members s.0 s.1 k.1 v.1 (rw c.in-End.is at c.in_ok-mark.ensures.reads) in
    (_, object_spells c.args.depth d c.args.at _ ys (omega arith) c.requires.brace.0 c.requires.brace.1 all)

pub pass_value-returns-in-34-clause-reads : goal.pass_value-returns-in-34-clause-reads
pass_value-returns-in-34-clause-reads t c =
    let d = c.args.text.now in
    let start = c.after_space-start in
    IfSome_then c.string_end.result c.string_end.ensures.reads (λ end s. (string s.0, string_spells d c.args.at start.result s.0 (drop end d) start.ensures.same (sym c.byte_at.ensures.value ∙ c.in-34.is) s.1 c.args.depth))

pub pass_value-returns-in-91-clause-reads : goal.pass_value-returns-in-91-clause-reads
pass_value-returns-in-91-clause-reads t c =
    let d = c.args.text.now in
    let start = c.after_space-start in
    IfSome_then c.pass_array.result c.pass_array.ensures.reads (λ end s. (s.0, respaced c.args.depth (drop start.result d) (drop c.args.at d) (drop end d) s.0 start.ensures.same s.1))

pub pass_value-returns-in-123-clause-reads : goal.pass_value-returns-in-123-clause-reads
pass_value-returns-in-123-clause-reads t c =
    let d = c.args.text.now in
    let start = c.after_space-start in
    IfSome_then c.pass_object.result c.pass_object.ensures.reads (λ end s. (s.0, respaced c.args.depth (drop start.result d) (drop c.args.at d) (drop end d) s.0 start.ensures.same s.1))

pub pass_value-returns-in_default-clause-reads : goal.pass_value-returns-in_default-clause-reads
pass_value-returns-in_default-clause-reads t c =
    let d = c.args.text.now in
    let start = c.after_space-start in
    IfSome_then c.pass_word.result c.pass_word.ensures.reads (λ end s. (s.0, respaced c.args.depth (drop start.result d) (drop c.args.at d) (drop end d) s.0 start.ensures.same (s.1 c.args.depth)))

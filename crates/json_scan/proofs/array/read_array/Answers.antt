use Rattle.std.proofs.Common.{◌≡◌, ◌<◌, ◌+◌, ◌-◌, ◌∷◌, ◌++◌, [], length, drop, get_or, arith}
use Rattle.json_scan.proofs.Arrays.{array_spells, empty_array_spells, no_items_yet, another_item, all_items}
use Rattle.json_scan.proofs.Lexemes.{byte_stands}
use Rattle.json_scan.proofs.Values.{behind_spaces}
use Rattle.json_scan.proofs.array.read_array.Goals as goal

pub returns-in-Some-clause-ok : goal.returns-in-Some-clause-ok
returns-in-Some-clause-ok g c =
    let d = c.args.text.now in
    let bytes = c.as_bytes-bytes in
    let spaces = c.after_space-start in
    let ys = drop c.in-Some.end d in
    let empty = rw bytes.ensures.value at c.in-Some.ensures.reads in (
      [],
      behind_spaces c.args.depth bytes.result.now d c.args.at spaces.result 91 _ ys bytes.ensures.value spaces.ensures.same (omega arith) (λ e. omega arith) (λ h e. empty_array_spells c.args.depth d spaces.result ys (omega arith) h e empty),
      λ h. h,
    )

pub items-init : goal.items-init
items-init g c =
    let d = c.args.text.now in
    let start = c.after_space-start.result in
    let byte : get_or d start 32 ≡ 91 = rw (← c.as_bytes-bytes.ensures.value) (omega arith) in
    let within : start < length d = (byte_stands d start 91 byte (λ e. omega arith)).0 in
    record { onward = omega arith; within = omega arith; so_far = ([], no_items_yet (c.args.depth - 1) (drop (start + 1) d), λ h. h) }

pub items-preserved : goal.items-preserved
items-preserved g c =
    let d = c.args.text.now in
    let s = c.items.invariant.so_far in
    let v = c.in_ok-end.ensures.ok in
    let mark = c.in_ok-mark in
    let next = rw c.in-Comma.is at mark.ensures.ok in
    record {
      onward = omega (arith, c.items.invariant.onward, c.in_ok-end.ensures.onward, mark.ensures.onward);
      within = mark.ensures.within;
      so_far = (
        s.0 ++ v.0 ∷ [],
        another_item (c.args.depth - 1) (drop (c.after_space-start.result + 1) d) (drop c.items.next d) (drop c.in_ok-end.end d) (drop mark.mark.end d) s.0 v.0 s.1 v.1 next,
        λ h. v.2 c.args.visitor.now s.0 (s.2 h),
      );
    }

pub returns-in-End-clause-ok : goal.returns-in-End-clause-ok
returns-in-End-clause-ok g c =
    let d = c.args.text.now in
    let bytes = c.as_bytes-bytes in
    let spaces = c.after_space-start in
    let s = c.items.invariant.so_far in
    let v = c.in_ok-end.ensures.ok in
    let mark = c.in_ok-mark in
    let ys = drop mark.mark.end d in
    let all = all_items (c.args.depth - 1) (drop (spaces.result + 1) d) (drop c.items.next d) (drop c.in_ok-end.end d) ys s.0 v.0 s.1 v.1 (rw c.in-End.is at mark.ensures.ok) in
    (s.0 ++ v.0 ∷ [], behind_spaces c.args.depth bytes.result.now d c.args.at spaces.result 91 _ ys bytes.ensures.value spaces.ensures.same (omega arith) (λ e. omega arith) (λ h e. array_spells c.args.depth d spaces.result _ ys (omega arith) h e all), λ h. v.2 c.args.visitor.now s.0 (s.2 h))

use Rattle.std.proofs.Common.{◌≡◌, ◌<◌, ◌+◌, ◌-◌, length, drop, get_or, arith}
use Rattle.serde_json.specs.Data.{no_members}
use Rattle.json_scan.proofs.Objects.{object_spells, empty_object_spells, no_members_yet, another_member, all_members}
use Rattle.json_scan.proofs.Lexemes.{byte_stands}
use Rattle.json_scan.proofs.Values.{behind_spaces}
use Rattle.json_scan.proofs.object.read_object.Goals as goal

pub returns-in-Some-clause-ok : goal.returns-in-Some-clause-ok
returns-in-Some-clause-ok g c =
    let d = c.args.text.now in
    let bytes = c.as_bytes-bytes in
    let spaces = c.after_space-start in
    let ys = drop c.in-Some.end d in
    let empty = rw bytes.ensures.value at c.in-Some.ensures.reads in (
      no_members,
      behind_spaces c.args.depth bytes.result.now d c.args.at spaces.result 123 _ ys bytes.ensures.value spaces.ensures.same (omega arith) (λ e. omega arith) (λ h e. empty_object_spells c.args.depth d spaces.result ys (omega arith) h e empty),
      λ h. h,
    )

pub members-init : goal.members-init
members-init g c =
    let d = c.args.text.now in
    let start = c.after_space-start.result in
    let byte : get_or d start 32 ≡ 123 = rw (← c.as_bytes-bytes.ensures.value) (omega arith) in
    let within : start < length d = (byte_stands d start 123 byte (λ e. omega arith)).0 in
    record { onward = omega arith; within = omega arith; so_far = (no_members, no_members_yet (c.args.depth - 1) (drop (start + 1) d) no_members, λ h. h) }

pub members-preserved : goal.members-preserved
members-preserved g c =
    let d = c.args.text.now in
    let s = c.members.invariant.so_far in
    let k = c.in_ok-key in
    let v = c.in_ok-end.ensures.ok in
    let mark = c.in_ok-mark in
    let next = rw c.in-Comma.is at mark.ensures.ok in
    record {
      onward = omega (arith, c.members.invariant.onward, k.ensures.onward, c.in_ok-end.ensures.onward, mark.ensures.onward);
      within = mark.ensures.within;
      so_far = (
        _,
        another_member (c.args.depth - 1) (drop (c.after_space-start.result + 1) d) (drop c.members.next d) (drop k.key.end d) (drop c.in_ok-end.end d) (drop mark.mark.end d) k.key.value.now v.0 no_members s.0 s.1 k.ensures.reads v.1 next,
        λ h. v.2 c.args.visitor.now s.0 (s.2 h),
      );
    }

pub returns-in-End-clause-ok : goal.returns-in-End-clause-ok
returns-in-End-clause-ok g c =
    let d = c.args.text.now in
    let bytes = c.as_bytes-bytes in
    let spaces = c.after_space-start in
    let s = c.members.invariant.so_far in
    let k = c.in_ok-key in
    let v = c.in_ok-end.ensures.ok in
    let mark = c.in_ok-mark in
    let ys = drop mark.mark.end d in
    let all =
    all_members (c.args.depth - 1) (drop (spaces.result + 1) d) (drop c.members.next d) (drop k.key.end d) (drop c.in_ok-end.end d) ys k.key.value.now v.0 no_members s.0 s.1 k.ensures.reads v.1
    (rw c.in-End.is at mark.ensures.ok) in
    (_, behind_spaces c.args.depth bytes.result.now d c.args.at spaces.result 123 _ ys bytes.ensures.value spaces.ensures.same (omega arith) (λ e. omega arith) (λ h e. object_spells c.args.depth d spaces.result _ ys (omega arith) h e all), λ h. v.2 c.args.visitor.now s.0 (s.2 h))

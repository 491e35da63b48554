use Rattle.std.proofs.Common.{◌≡◌, ◌≢◌, Some, refl, ap, subst, rules}
use Rattle.arrays.specs.Prelude.{kind_of, out-Field}
use Rattle.json_read.specs.Prelude.{array, member_name}
use Rattle.json_read.specs.Members as member
use Rattle.json_scan.proofs.Values.{if_ok_then}
use Rattle.json_stream.specs.Lists.{HoldsChildMember, array_of_one}
use Rattle.json_stream.proofs.ListLemmas.{lists_count_taken, lists_validity_taken, offsets_taken, children_taken, lists_passed}
use Rattle.json_stream.proofs.list.ListMembersMemberVisitor.visit.Goals as goal

pub returns-then-eq-clause-ok : goal.returns-then-eq-clause-ok
returns-then-eq-clause-ok c =
    let read = c.in_ok-count.ensures.ok in
    let same : c.args.name.now ≡ member_name member.Count = search rules in
    (read.0, read.1, λ first ms h. (h.0, h.1, lists_count_taken _ _ c.args.depth c.args.text.now c.args.name.now read.0 ms c.args.self.now.parts h.2 c.in_ok-count.count.value same read.2))

pub returns-then-eq-2-clause-ok : goal.returns-then-eq-2-clause-ok
returns-then-eq-2-clause-ok c =
    let read = c.in_ok-validity.ensures.ok in
    let same : c.args.name.now ≡ member_name member.Validity = search rules in
    (read.0, read.1, λ first ms h. (h.0, h.1, lists_validity_taken _ _ c.args.depth c.args.text.now c.args.name.now read.0 ms c.args.self.now.parts h.2 c.in_ok-validity.validity.value same read.2))

pub returns-then-eq-3-clause-ok : goal.returns-then-eq-3-clause-ok
returns-then-eq-3-clause-ok c =
    let read = c.in_ok-offsets.ensures.ok in
    let offsets = c.in_ok-offsets.offsets.value in
    let same : c.args.name.now ≡ member_name member.Offset = search rules in
    (array read.0, read.1, λ first ms h. (h.0, h.1, offsets_taken _ _ c.args.depth c.args.text.now c.args.name.now (array read.0) ms c.args.self.now.parts h.2 offsets _ h.0 same (read.0, refl, read.2)))

pub returns-then-eq-4-clause-ok : goal.returns-then-eq-4-clause-ok
returns-then-eq-4-clause-ok c =
    let read = c.in_ok-child.ensures.ok in
    let child = c.in_ok-child.child.value in
    let same : c.args.name.now ≡ member_name member.Children = search rules in (
      array_of_one read.0,
      read.1,
      λ first ms h. (
        h.0,
        h.1,
        children_taken _ _ c.args.depth c.args.text.now c.args.name.now (array_of_one read.0) ms c.args.self.now.parts h.2 child same
            (subst (λ k. HoldsChildMember k c.args.depth c.args.text.now (Some (array_of_one read.0)) (Some child)) (ap (λ f. kind_of (out-Field f.now).ty) h.1) (read.0, refl, read.2)),
      ),
    )

pub returns-clause-ok : goal.returns-clause-ok
returns-clause-ok c =
    let no_count : c.args.name.now ≢ member_name member.Count = search rules in
    let no_validity : c.args.name.now ≢ member_name member.Validity = search rules in
    let no_offset : c.args.name.now ≢ member_name member.Offset = search rules in
    let no_children : c.args.name.now ≢ member_name member.Children = search rules in
    if_ok_then c.pass_over.result c.pass_over.ensures.ok (λ end read. (read.0, read.1, λ first ms h. (h.0, h.1, lists_passed _ _ c.args.depth c.args.text.now c.args.name.now read.0 ms c.args.self.now.parts h.2 no_count no_validity no_offset no_children)))

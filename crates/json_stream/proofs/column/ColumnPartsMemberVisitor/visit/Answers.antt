use Rattle.std.proofs.Common.{◌≡◌, ◌≢◌, Some, subst, rules}
use Rattle.json_read.specs.Prelude.{member_name}
use Rattle.json_read.specs.Members as member
use Rattle.json_scan.proofs.Values.{if_ok_then}
use Rattle.json_stream.specs.Prelude.{IsValues, coding_in, kind_in}
use Rattle.json_stream.proofs.ColumnLemmas.{count_taken, validity_taken, data_taken, passed}
use Rattle.json_stream.proofs.column.ColumnPartsMemberVisitor.visit.Goals as goal

pub returns-then-eq-clause-ok : goal.returns-then-eq-clause-ok
returns-then-eq-clause-ok c =
    let read = c.in_ok-count.ensures.ok in
    let same : c.args.name.now ≡ member_name member.Count = search rules in
    (read.0, read.1, λ first ms h. (h.0, count_taken _ _ c.args.depth c.args.text.now c.args.name.now read.0 ms c.args.self.now h.1 c.in_ok-count.count.value same read.2))

pub returns-then-eq-2-clause-ok : goal.returns-then-eq-2-clause-ok
returns-then-eq-2-clause-ok c =
    let read = c.in_ok-validity.ensures.ok in
    let same : c.args.name.now ≡ member_name member.Validity = search rules in
    (read.0, read.1, λ first ms h. (h.0, validity_taken _ _ c.args.depth c.args.text.now c.args.name.now read.0 ms c.args.self.now h.1 c.in_ok-validity.validity.value same read.2))

pub returns-then-eq-3-clause-ok : goal.returns-then-eq-3-clause-ok
returns-then-eq-3-clause-ok c =
    let read = c.in_ok-data.ensures.ok in
    let values = c.in_ok-data.data.value in
    let same : c.args.name.now ≡ member_name member.Data = search rules in (
      read.0,
      read.1,
      λ first ms h. (
        h.0,
        data_taken _ _ c.args.depth c.args.text.now c.args.name.now read.0 ms c.args.self.now h.1 c.in_ok-place.place values same (c.in_ok-place.ensures.stands read.0 read.1)
            (subst (λ f. IsValues (kind_in f) (coding_in f) c.args.self.now.validity (Some read.0) values) h.0 read.2),
      ),
    )

pub returns-clause-ok : goal.returns-clause-ok
returns-clause-ok c =
    let no_count : c.args.name.now ≢ member_name member.Count = search rules in
    let no_validity : c.args.name.now ≢ member_name member.Validity = search rules in
    let no_data : c.args.name.now ≢ member_name member.Data = search rules in
    if_ok_then c.pass_over.result c.pass_over.ensures.ok (λ end read. (read.0, read.1, λ first ms h. (h.0, passed _ _ c.args.depth c.args.text.now c.args.name.now read.0 ms c.args.self.now h.1 no_count no_validity no_data)))

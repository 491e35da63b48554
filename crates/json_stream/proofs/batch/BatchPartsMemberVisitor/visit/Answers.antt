use Rattle.std.proofs.Common.{◌≡◌, ◌≢◌, map, option_map, refl, ap, rules}
use Rattle.arrays.specs.Prelude.{fields_of}
use Rattle.json_read.specs.Prelude.{array, coding_of, member_name, no_items}
use Rattle.json_read.specs.Members as member
use Rattle.json_scan.specs.Spelling.{before}
use Rattle.json_scan.proofs.Values.{if_ok_then}
use Rattle.json_stream.proofs.BatchLemmas.{columns_known}
use Rattle.json_stream.proofs.ReadBatches.{rows_taken, columns_taken, other_passed}
use Rattle.json_stream.proofs.batch.BatchPartsMemberVisitor.visit.Goals as goal

pub returns-then-eq-clause-ok : goal.returns-then-eq-clause-ok
returns-then-eq-clause-ok c =
    let read = c.in_ok-count.ensures.ok in
    let same : c.args.name.now ≡ member_name member.Count = search rules in
    (read.0, read.1, λ first ms h. (h.0, h.1, rows_taken _ _ c.args.name.now read.0 ms c.args.self.now h.2 c.in_ok-count.count.value same read.2))

pub returns-then-eq-2-clause-ok : goal.returns-then-eq-2-clause-ok
returns-then-eq-2-clause-ok c =
    let read = c.in_ok-columns.ensures.ok in
    let columns = c.in_ok-columns.columns.value in
    let same : c.args.name.now ≡ member_name member.Columns = search rules in
    let d = array (before read.0 no_items) in (
      d,
      read.1,
      λ first ms h.
          let are = columns_known _ _ _ _ read.0 columns.items (ap (λ r. fields_of r.now) h.0) (ap (λ r. map (option_map coding_of) r.now) h.1) read.2 in
          (h.0, h.1, columns_taken _ _ c.args.name.now d ms c.args.self.now h.2 columns read.0 same refl are),
    )

pub returns-clause-ok : goal.returns-clause-ok
returns-clause-ok c =
    let no_count : c.args.name.now ≢ member_name member.Count = search rules in
    let no_columns : c.args.name.now ≢ member_name member.Columns = search rules in
    if_ok_then c.pass_over.result c.pass_over.ensures.ok (λ end read. (read.0, read.1, λ first ms h. (h.0, h.1, other_passed _ _ c.args.name.now read.0 ms c.args.self.now h.2 no_count no_columns)))

use Rattle.std.proofs.Common.{◌∙◌, List, arith, filter, map}
use Rattle.std.specs.Arc.{arc_value}
use Rattle.std.proofs.lemmas.Result.{err_from_is_err_and}
use Rattle.arrays.specs.Batch.{Batch}
use Rattle.query.specs.QueryShape.{query_shape}
use Rattle.answers.specs.Prelude.{all_rows, first_fields, group_shape, is_kept}
use Rattle.answers.proofs.GroupLemmas.{as_long}
use Rattle.answers.proofs.ReportedLemmas.{reported_all}
use Rattle.answers.proofs.WholeLemmas.{all_joined, is_answer, is_refusal}
use Rattle.answers.proofs.answering.answer_alone.Goals as goal

pub look_at_one-requires-clause-scan : goal.look_at_one-requires-clause-scan
look_at_one-requires-clause-scan c κs = record {
  types = c.requires.types;
  fits = c.requires.fits;
  comparable = c.count_all-rows.ensures.comparable;
  counted = c.count_all-rows.ensures.count;
  few = c.requires.few;
  one = omega arith;
  most = omega arith;
}

pub returns-in_err-whole-clause-err : goal.returns-in_err-whole-clause-err
returns-in_err-whole-clause-err c =
    let batches : List Batch = map arc_value c.args.batches.now in
    let p = err_from_is_err_and c.from_residual-in_err-whole.result c.from_residual-in_err-whole.ensures.1 in
    rw (p.1, p.2) (is_refusal (first_fields batches) c.args.query.now (all_rows batches) 1 c.in_err-whole.field-0.0 (omega arith) c.in_err-whole.ensures)

pub tell_in_turn-requires-clause-full : goal.tell_in_turn-requires-clause-full
tell_in_turn-requires-clause-full c =
    let batches : List Batch = map arc_value c.args.batches.now in
    let q = c.args.query.now in
    let run = all_joined (first_fields batches) q (all_rows batches) 1 c.in_ok-whole.whole (omega arith) c.in_ok-whole.ensures in
    as_long q.by.items q.aggs.items _ c.in_ok-whole.whole.keys c.in_ok-whole.whole.columns.items run.kept.0

pub returns-clause-ok : goal.returns-clause-ok
returns-clause-ok c =
    let batches : List Batch = map arc_value c.args.batches.now in
    let fields = first_fields batches in
    let q = c.args.query.now in
    let run = all_joined fields q (all_rows batches) 1 c.in_ok-whole.whole (omega arith) c.in_ok-whole.ensures in
    let rows = filter (is_kept fields (query_shape q).filter) (all_rows batches) in
    is_answer fields q (all_rows batches) c.in_ok-whole.whole (map group_shape c.in_ok-groups.groups.items) run
    (c.in_ok-groups.ensures ∙ reported_all q.by.items q.aggs.items rows c.in_ok-whole.whole c.len.result c.len.ensures run.kept.0)

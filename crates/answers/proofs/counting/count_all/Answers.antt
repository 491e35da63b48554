use Rattle.std.proofs.Common.{◌≡◌, ◌∙◌, ℕ, ◌<◌, ◌^◌, List, All, ap, sym, subst, arith, refl, length, map, take, get_or, length-append}
use Rattle.std.specs.Prelude.{None, true}
use Rattle.std.proofs.lemmas.List.{length-map, take_all}
use Rattle.std.proofs.lemmas.List.Elements.{All-nil}
use Rattle.std.specs.Arc.{arc_value}
use Rattle.arrays.specs.Prelude.{Batch, kind_of_field, rows_of}
use Rattle.query.specs.Prelude.{agg_fault, fits, query_shape, sort_at}
use Rattle.query.specs.declared.expr.Agg.{Agg}
use Rattle.answers.specs.Answers.{all_rows, first_fields}
use Rattle.tallies.specs.Kinds.{AreComparable}
use Rattle.evaluate.specs.Rows.{kind_at}
use Rattle.answers.proofs.AnsweringLemmas.{at_next, few_next, mapped_at, rows_next}
use Rattle.answers.proofs.FitLemmas.{what_fits}
use Rattle.answers.proofs.KindLemmas.{comparable_next}
use Rattle.answers.proofs.RunLemmas.{length-rows}
use Rattle.answers.proofs.counting.count_all.Goals as goal

pub loop-batch-init : goal.loop-batch-init
loop-batch-init c = record {
  rows = refl;
  comparable = All-nil (AreComparable (kind_at (first_fields (map arc_value c.args.batches.now))) c.args.query.now.aggs.items);
}

pub tell_comparable-requires : goal.tell_comparable-requires
tell_comparable-requires c =
    let batches : List Batch = map arc_value c.args.batches.now in
    let place : ℕ = c.loop-batch.batch-index in
    let batch : Batch = c.deref.result.now in
    let below : place < length batches = omega (arith, length-map c.args.batches.now arc_value) in
    let here : batch ≡ get_or batches place batch = mapped_at arc_value c.args.batches.now place c.batch-item.result batch (omega arith) c.batch-item.is c.deref.ensures in
    let q = what_fits batch.fields (query_shape c.args.query.now) (at_next (λ (b : Batch). fits b.fields (query_shape c.args.query.now) ≡ true) batches place batch c.requires.fits below here) in
    subst (λ (l : List (Agg ℕ)). All (λ (a : Agg ℕ). agg_fault (sort_at batch.fields) a ≡ None) l) (sym c.as_slice.ensures.value) q.aggs

pub overflow_add-rows : goal.overflow_add-rows
overflow_add-rows c =
    let batches : List Batch = map arc_value c.args.batches.now in
    let place : ℕ = c.loop-batch.batch-index in
    let batch : Batch = c.deref.result.now in
    let below : place < length batches = omega (arith, length-map c.args.batches.now arc_value) in
    let here : batch ≡ get_or batches place batch = mapped_at arc_value c.args.batches.now place c.batch-item.result batch (omega arith) c.batch-item.is c.deref.ensures in
    let rows : c.from-rows.result ≡ batch.rows = c.from-rows.ensures ∙ c.rows.ensures ∙ ap (λ (b : Batch). b.rows) (c.deref-in-loop-batch.ensures ∙ sym c.deref.ensures) in
    record { fits = omega (arith, c.loop-batch.invariant.rows, rows, few_next batches place batch below here (2 ^ 40) c.requires.few) }

pub loop-batch-preserved : goal.loop-batch-preserved
loop-batch-preserved c =
    let batches : List Batch = map arc_value c.args.batches.now in
    let place : ℕ = c.loop-batch.batch-index in
    let batch : Batch = c.deref.result.now in
    let below : place < length batches = omega (arith, length-map c.args.batches.now arc_value) in
    let here : batch ≡ get_or batches place batch = mapped_at arc_value c.args.batches.now place c.batch-item.result batch (omega arith) c.batch-item.is c.deref.ensures in
    let alike : map kind_of_field batch.fields ≡ map kind_of_field (first_fields batches) =
    at_next (λ (b : Batch). map kind_of_field b.fields ≡ map kind_of_field (first_fields batches)) batches place batch c.requires.types below here in
    let rows : c.from-rows.result ≡ batch.rows = c.from-rows.ensures ∙ c.rows.ensures ∙ ap (λ (b : Batch). b.rows) (c.deref-in-loop-batch.ensures ∙ sym c.deref.ensures) in
    let front = all_rows (take place batches) in record {
      rows = omega (arith, c.loop-batch.invariant.rows, rows, ap length (rows_next batches place batch below here), length-append front (rows_of batch), length-rows batch);
      comparable = comparable_next batches place batch below here (first_fields batches) c.args.query.now.aggs.items alike c.loop-batch.invariant.comparable
          (subst (λ (l : List (Agg ℕ)). All (AreComparable (kind_at batch.fields) l) (rows_of batch)) c.as_slice.ensures.value c.tell_comparable.ensures);
    }

pub returns-clause-count : goal.returns-clause-count
returns-clause-count c =
    let batches : List Batch = map arc_value c.args.batches.now in
    c.loop-batch.invariant.rows ∙ ap (λ (l : List Batch). length (all_rows l)) (take_all c.loop-batch.batch-index batches (omega (arith, length-map c.args.batches.now arc_value)))

pub returns-clause-comparable : goal.returns-clause-comparable
returns-clause-comparable c =
    let batches : List Batch = map arc_value c.args.batches.now in
    subst (λ (l : List Batch). All (AreComparable (kind_at (first_fields batches)) c.args.query.now.aggs.items) (all_rows l))
    (take_all c.loop-batch.batch-index batches (omega (arith, length-map c.args.batches.now arc_value))) c.loop-batch.invariant.comparable

use Rattle.std.proofs.Common.{◌≡◌, ◌∙◌, ℕ, ◌+◌, ◌-◌, ◌<◌, ◌^◌, List, ap, arith, get_or, inl, length, length-append, map, refl, subst, sym, take}
use Rattle.std.specs.Prelude.{min, true}
use Rattle.std.specs.Arc.{arc_value}
use Rattle.std.proofs.lemmas.List.{length-map}
use Rattle.std.proofs.lemmas.List.Elements.{All-nil}
use Rattle.arrays.specs.Prelude.{Batch, Table, kind_of_field, rows_of}
use Rattle.query.specs.Prelude.{fits, query_shape}
use Rattle.query.specs.declared.fault.QueryFault.TheVariants.{Overflow}
use Rattle.answers.specs.Prelude.{HasRun, IsBadRow, IsGood, StopsAt, all_rows, between, first_fields}
use Rattle.answers.proofs.AnsweringLemmas.{at_next, few_next, has_kept_alike, mapped_at, rows_next}
use Rattle.answers.proofs.PieceLemmas.{none_between, piece_few, piece_place, piece_refused, piece_run, piece_whole}
use Rattle.answers.proofs.RunLemmas.{length-rows}
use Rattle.answers.proofs.piece.look_at_rows.Goals as goal

pub loop-batch-init : goal.loop-batch-init
loop-batch-init g c =
    let fields = first_fields (map arc_value c.args.scan.now.batches.now) in
    let q = c.args.scan.now.query.now in
    let none = none_between c.args.from c.args.to in record {
      before = refl;
      run = subst (λ (l : Table). HasRun fields q l c.in_ok-grouping.grouping) (sym none) (record { good = All-nil (IsGood fields (query_shape q).filter); kept = c.in_ok-grouping.ensures });
    }

pub add_part-requires-clause-fits : goal.add_part-requires-clause-fits
add_part-requires-clause-fits g c κs within =
    let batches : List Batch = map arc_value c.args.scan.now.batches.now in
    let place : ℕ = c.loop-batch.batch-index in
    let batch : Batch = c.deref-in-loop-batch.result.now in
    let below : place < length batches = omega (arith, length-map c.args.scan.now.batches.now arc_value) in
    let here : batch ≡ get_or batches place batch = mapped_at arc_value c.args.scan.now.batches.now place c.batch-item.result batch (omega arith) c.batch-item.is c.deref-in-loop-batch.ensures in
    at_next (λ (b : Batch). fits b.fields (query_shape c.args.scan.now.query.now) ≡ true) batches place batch c.requires.scan.fits below here

pub add_part-requires-clause-room : goal.add_part-requires-clause-room
add_part-requires-clause-room g c κs within =
    let batches : List Batch = map arc_value c.args.scan.now.batches.now in
    let place : ℕ = c.loop-batch.batch-index in
    let batch : Batch = c.deref-in-loop-batch.result.now in
    let below : place < length batches = omega (arith, length-map c.args.scan.now.batches.now arc_value) in
    let here : batch ≡ get_or batches place batch = mapped_at arc_value c.args.scan.now.batches.now place c.batch-item.result batch (omega arith) c.batch-item.is c.deref-in-loop-batch.ensures in
    let alike : map kind_of_field batch.fields ≡ map kind_of_field (first_fields batches) =
    at_next (λ (b : Batch). map kind_of_field b.fields ≡ map kind_of_field (first_fields batches)) batches place batch c.requires.scan.types below here in
    let rows : c.from-rows.result ≡ batch.rows = c.from-rows.ensures ∙ c.rows.ensures ∙ ap (λ (b : Batch). b.rows) (c.deref.ensures ∙ sym c.deref-in-loop-batch.ensures) in
    let front = all_rows (take place batches) in
    let start = c.within-start.result in
    let n = c.within-end.result - start in
    let first : start ≡ min (c.args.from - length front) batch.rows = c.within-start.ensures ∙ ap (λ m. min (c.args.from - m) c.from-rows.result) c.loop-batch.invariant.before ∙ ap (min (c.args.from - length front)) rows in
    let last : c.within-end.result ≡ min (c.args.to - length front) batch.rows = c.within-end.ensures ∙ ap (λ m. min (c.args.to - m) c.from-rows.result) c.loop-batch.invariant.before ∙ ap (min (c.args.to - length front)) rows in
    let part = between c.args.from c.args.to front in (
      part,
      piece_few batches place batch below here c.args.from c.args.to start n first (ap (λ m. m - start) last) (2 ^ 40) c.requires.scan.few,
      has_kept_alike (first_fields batches) batch.fields c.args.scan.now.query.now part c.loop-batch.grouping (sym alike) c.loop-batch.invariant.run.kept,
    )

pub overflow_add-before : goal.overflow_add-before
overflow_add-before g c =
    let batches : List Batch = map arc_value c.args.scan.now.batches.now in
    let place : ℕ = c.loop-batch.batch-index in
    let batch : Batch = c.deref-in-loop-batch.result.now in
    let below : place < length batches = omega (arith, length-map c.args.scan.now.batches.now arc_value) in
    let here : batch ≡ get_or batches place batch = mapped_at arc_value c.args.scan.now.batches.now place c.batch-item.result batch (omega arith) c.batch-item.is c.deref-in-loop-batch.ensures in
    let rows : c.from-rows.result ≡ batch.rows = c.from-rows.ensures ∙ c.rows.ensures ∙ ap (λ (b : Batch). b.rows) (c.deref.ensures ∙ sym c.deref-in-loop-batch.ensures) in
    record { fits = omega (arith, c.loop-batch.invariant.before, rows, few_next batches place batch below here (2 ^ 40) c.requires.scan.few) }

pub returns-in-Err-Bad-clause-err : goal.returns-in-Err-Bad-clause-err
returns-in-Err-Bad-clause-err g c =
    let batches : List Batch = map arc_value c.args.scan.now.batches.now in
    let place : ℕ = c.loop-batch.batch-index in
    let batch : Batch = c.deref-in-loop-batch.result.now in
    let below : place < length batches = omega (arith, length-map c.args.scan.now.batches.now arc_value) in
    let here : batch ≡ get_or batches place batch = mapped_at arc_value c.args.scan.now.batches.now place c.batch-item.result batch (omega arith) c.batch-item.is c.deref-in-loop-batch.ensures in
    let alike : map kind_of_field batch.fields ≡ map kind_of_field (first_fields batches) =
    at_next (λ (b : Batch). map kind_of_field b.fields ≡ map kind_of_field (first_fields batches)) batches place batch c.requires.scan.types below here in
    let rows : c.from-rows.result ≡ batch.rows = c.from-rows.ensures ∙ c.rows.ensures ∙ ap (λ (b : Batch). b.rows) (c.deref.ensures ∙ sym c.deref-in-loop-batch.ensures) in
    let front = all_rows (take place batches) in
    let start = c.within-start.result in
    let n = c.within-end.result - start in
    let first : start ≡ min (c.args.from - length front) batch.rows = c.within-start.ensures ∙ ap (λ m. min (c.args.from - m) c.from-rows.result) c.loop-batch.invariant.before ∙ ap (min (c.args.from - length front)) rows in
    let last : c.within-end.result ≡ min (c.args.to - length front) batch.rows = c.within-end.ensures ∙ ap (λ m. min (c.args.to - m) c.from-rows.result) c.loop-batch.invariant.before ∙ ap (min (c.args.to - length front)) rows in
    let count = ap (λ m. m - start) last in
    let f = (query_shape c.args.scan.now.query.now).filter in
    let bad : IsBadRow batch start n f c.in-Err-Bad.row = subst (StopsAt batch start n f) c.in-Err-Bad.field-0-is c.in-Err-Bad.ensures.err in
    let from = c.args.from in
    let to = c.args.to in (
    inl (
      length (between from to front) + c.in-Err-Bad.row,
      piece_refused batches place batch below here from to start n first count f (first_fields batches) alike c.in-Err-Bad.row bad c.loop-batch.invariant.run.good,
      ap (λ m. Overflow (c.loop-batch.before + start + m)) c.in-Err-Bad.row-is
          ∙ ap Overflow (sym (piece_place batches place batch below here from to start n first count f (first_fields batches) alike c.in-Err-Bad.row c.loop-batch.before c.requires.order c.loop-batch.invariant.before bad.within)),
    )
    )

pub loop-batch-preserved : goal.loop-batch-preserved
loop-batch-preserved g c =
    let batches : List Batch = map arc_value c.args.scan.now.batches.now in
    let place : ℕ = c.loop-batch.batch-index in
    let batch : Batch = c.deref-in-loop-batch.result.now in
    let below : place < length batches = omega (arith, length-map c.args.scan.now.batches.now arc_value) in
    let here : batch ≡ get_or batches place batch = mapped_at arc_value c.args.scan.now.batches.now place c.batch-item.result batch (omega arith) c.batch-item.is c.deref-in-loop-batch.ensures in
    let alike : map kind_of_field batch.fields ≡ map kind_of_field (first_fields batches) =
    at_next (λ (b : Batch). map kind_of_field b.fields ≡ map kind_of_field (first_fields batches)) batches place batch c.requires.scan.types below here in
    let rows : c.from-rows.result ≡ batch.rows = c.from-rows.ensures ∙ c.rows.ensures ∙ ap (λ (b : Batch). b.rows) (c.deref.ensures ∙ sym c.deref-in-loop-batch.ensures) in
    let front = all_rows (take place batches) in
    let start = c.within-start.result in
    let n = c.within-end.result - start in
    let first : start ≡ min (c.args.from - length front) batch.rows = c.within-start.ensures ∙ ap (λ m. min (c.args.from - m) c.from-rows.result) c.loop-batch.invariant.before ∙ ap (min (c.args.from - length front)) rows in
    let last : c.within-end.result ≡ min (c.args.to - length front) batch.rows = c.within-end.ensures ∙ ap (λ m. min (c.args.to - m) c.from-rows.result) c.loop-batch.invariant.before ∙ ap (min (c.args.to - length front)) rows in
    let part = between c.args.from c.args.to front in record {
      before = omega (arith, c.loop-batch.invariant.before, rows, ap length (rows_next batches place batch below here), length-append front (rows_of batch), length-rows batch);
      run = piece_run batches place batch below here c.args.from c.args.to start n first (ap (λ m. m - start) last) (first_fields batches) c.args.scan.now.query.now c.loop-batch.grouping c.add_part.new.grouping alike
          c.loop-batch.invariant.run c.in-Ok.ensures.sound
          (c.in-Ok.ensures.ok part (has_kept_alike (first_fields batches) batch.fields c.args.scan.now.query.now part c.loop-batch.grouping (sym alike) c.loop-batch.invariant.run.kept));
    }

pub returns-clause-ok : goal.returns-clause-ok
returns-clause-ok g c =
    let batches : List Batch = map arc_value c.args.scan.now.batches.now in
    piece_whole batches c.loop-batch.batch-index c.args.from c.args.to (first_fields batches) c.args.scan.now.query.now c.loop-batch.grouping
    (omega (arith, length-map c.args.scan.now.batches.now arc_value)) c.loop-batch.invariant.run

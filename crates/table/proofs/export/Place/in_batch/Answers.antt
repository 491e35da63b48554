use Rattle.std.proofs.Common.{◌∙◌, ap, arith}
use Rattle.arrays.specs.Batch.{Batch}
use Rattle.table.proofs.ExportLemmas.{rows_before-shared}
use Rattle.table.proofs.export.Place.in_batch.Goals as goal

pub returns-then-self-rows-clause-left : goal.returns-then-self-rows-clause-left
returns-then-self-rows-clause-left c =
    let batches = c.args.batches.now in
    λ behind. omega (
      arith,
      c.if-self-rows.true,
      rows_before-shared batches c.args.self.batch c.index-batches-self.result c.rows.result c.requires.within c.index-batches-self.is (c.rows.ensures ∙ ap (λ (b : Batch). b.rows) c.deref.ensures),
    )

pub loop-batch-init : goal.loop-batch-init
loop-batch-init c =
    let batches = c.args.batches.now in
    omega (
      arith,
      c.if-self-rows.false,
      c.requires.place,
      rows_before-shared batches c.args.self.batch c.index-batches-self.result c.rows.result c.requires.within c.index-batches-self.is (c.rows.ensures ∙ ap (λ (b : Batch). b.rows) c.deref.ensures),
    )

pub returns-then-rows-gt0-clause-place : goal.returns-then-rows-gt0-clause-place
returns-then-rows-gt0-clause-place c =
    let batches = c.args.batches.now in
    omega (
      arith,
      rows_before-shared batches c.loop-batch.batch c.index-batches-batch.result c.rows-in-loop-batch.result c.loop-batch-test.true c.index-batches-batch.is
          (c.rows-in-loop-batch.ensures ∙ ap (λ (b : Batch). b.rows) c.deref-in-loop-batch.ensures),
    )

pub returns-then-rows-gt0-clause-left : goal.returns-then-rows-gt0-clause-left
returns-then-rows-gt0-clause-left c =
    let batches = c.args.batches.now in
    λ behind. omega (
      arith,
      c.if-rows-gt0.true,
      rows_before-shared batches c.loop-batch.batch c.index-batches-batch.result c.rows-in-loop-batch.result c.loop-batch-test.true c.index-batches-batch.is
          (c.rows-in-loop-batch.ensures ∙ ap (λ (b : Batch). b.rows) c.deref-in-loop-batch.ensures),
    )

pub loop-batch-preserved : goal.loop-batch-preserved
loop-batch-preserved c =
    let batches = c.args.batches.now in
    omega (
      arith,
      c.if-rows-gt0.false,
      c.loop-batch.invariant,
      rows_before-shared batches c.loop-batch.batch c.index-batches-batch.result c.rows-in-loop-batch.result c.loop-batch-test.true c.index-batches-batch.is
          (c.rows-in-loop-batch.ensures ∙ ap (λ (b : Batch). b.rows) c.deref-in-loop-batch.ensures),
    )

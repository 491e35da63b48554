use Rattle.std.proofs.Common.{◌<◌, arith, length, map, subst, sym}
use Rattle.std.specs.Arc.{arc_value}
use Rattle.std.proofs.lemmas.List.{length-map}
use Rattle.arrays.specs.Batch.{Batch}
use Rattle.group.proofs.ColumnsLemmas.{all_zip-more}
use Rattle.compaction.specs.Columns.{IsColumnOf}
use Rattle.compaction.proofs.FrontLemmas.{Shared, batch-at, shared-at}
use Rattle.compaction.proofs.joining.views_of.Goals as goal

pub column_of-requires : goal.column_of-requires
column_of-requires c =
    subst (λ (b : Batch). c.args.k < length b.columns) (sym c.deref.ensures)
    (batch-at (λ b. c.args.k < length b.columns) c.args.batches.now c.loop-batch.batch-index c.batch-item.result c.loop-batch-test.true c.batch-item.is c.requires)

pub loop-batch-preserved : goal.loop-batch-preserved
loop-batch-preserved c =
    let batches = c.args.batches.now in
    let n = c.loop-batch.batch-index in
    let b = c.batch-item.result in
    let one : IsColumnOf c.args.k c.deref.result.now c.column_of.result = record { at = c.column_of.ensures.column; items = c.column_of.ensures.items } in
    all_zip-more (IsColumnOf c.args.k) (map (λ (x : Shared). arc_value x) batches) c.loop-batch.views.items c.push.new.self.items n (arc_value b) c.column_of.result
    (omega (arith, c.loop-batch-test.true, length-map batches (λ (x : Shared). arc_value x))) (shared-at batches n b c.loop-batch-test.true c.batch-item.is)
    c.in_ok-push.ensures.items c.loop-batch.invariant (subst (λ (x : Batch). IsColumnOf c.args.k x c.column_of.result) c.deref.ensures one)

use Rattle.std.proofs.Common.{◌∙◌, ap, arith, map, option_map, subst}
use Rattle.std.specs.Arc.{arc_value}
use Rattle.std.specs.List.{AllZip}
use Rattle.std.proofs.lemmas.List.{length-map, map_push, take_all}
use Rattle.answers.proofs.ColumnsLemmas.{all_zip-more}
use Rattle.compaction.specs.Under.{IsUnder}
use Rattle.compaction.proofs.FrontLemmas.{Shared, batch-at, shared-at}
use Rattle.table.specs.Moved.{IsMoved}
use Rattle.table.proofs.moving.all_over.Goals as goal

pub with_dictionaries-requires-clause-under : goal.with_dictionaries-requires-clause-under
with_dictionaries-requires-clause-under c =
    batch-at (IsUnder (arc_value c.args.schema.now) (map (option_map arc_value) c.args.dictionaries.now)) c.args.batches.now c.loop-batch.batch-index c.batch-item.result c.loop-batch-test.true c.batch-item.is c.requires.under

pub loop-batch-preserved : goal.loop-batch-preserved
loop-batch-preserved c =
    let batches = c.args.batches.now in
    let n = c.loop-batch.batch-index in
    let b = c.batch-item.result in
    let made = c.in_ok-with_dictionaries.field-0 in
    all_zip-more (IsMoved (arc_value c.args.schema.now) (map (option_map arc_value) c.args.dictionaries.now)) (map (λ (x : Shared). arc_value x) batches) (map arc_value c.loop-batch.all.items) (map arc_value c.push.new.self.items) n (arc_value b) (arc_value made)
    (omega (arith, c.loop-batch-test.true, length-map batches (λ (x : Shared). arc_value x))) (shared-at batches n b c.loop-batch-test.true c.batch-item.is)
    (ap (map arc_value) c.in_ok-push.ensures.items ∙ map_push arc_value c.loop-batch.all.items made) c.loop-batch.invariant
    (record { under = c.in_ok-with_dictionaries.ensures.under; rows = c.in_ok-with_dictionaries.ensures.rows })

pub returns : goal.returns
returns c =
    let batches = map (λ (x : Shared). arc_value x) c.args.batches.now in
    subst (λ l. AllZip (IsMoved (arc_value c.args.schema.now) (map (option_map arc_value) c.args.dictionaries.now)) l (map arc_value c.loop-batch.all.items))
    (take_all c.loop-batch.batch-index batches (omega (arith, c.loop-batch-test.false, length-map c.args.batches.now (λ (x : Shared). arc_value x)))) c.loop-batch.invariant

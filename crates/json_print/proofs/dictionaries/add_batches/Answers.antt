use Rattle.std.proofs.Common.{◌≡◌, ◌∙◌, sym, ap, subst, arith}
use Rattle.std.specs.Arc.{arc_value}
use Rattle.arrays.specs.Batch.{Batch}
use Rattle.json_base.specs.JsonTable.{table_of}
use Rattle.json_print.specs.Dictionaries.{IsEncodedAt, column_at, with_items}
use Rattle.json_print.proofs.Steps.{All-mapped}
use Rattle.json_print.proofs.Texts.{texts_step}
use Rattle.json_print.proofs.dictionaries.add_batches.Goals as goal

pub add_batch-requires : goal.add_batch-requires
add_batch-requires c =
    subst (IsEncodedAt c.args.place) (sym c.deref.ensures)
    (All-mapped (IsEncodedAt c.args.place) arc_value c.args.batches.now c.loop-batch.batch-index c.batch-item.result c.requires (omega arith) c.batch-item.is)

pub loop-batch-preserved : goal.loop-batch-preserved
loop-batch-preserved c =
    let batch : c.deref.result.now ≡ arc_value c.batch-item.result = c.deref.ensures in
    texts_step arc_value c.args.place c.args.batches.now c.loop-batch.batch-index c.batch-item.result c.loop-batch.texts c.add_batch.new.texts _ (omega arith) c.batch-item.is
    (c.in_ok-add_batch.ensures ∙ ap (λ (b : Batch). with_items c.loop-batch.texts (column_at c.args.place (table_of b))) batch) c.loop-batch.invariant

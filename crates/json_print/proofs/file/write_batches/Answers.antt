use Rattle.std.proofs.Common.{◌∙◌, ap, arith}
use Rattle.std.specs.Arc.{arc_value}
use Rattle.arrays.specs.Prelude.{Batch, fields_of, kinds_of}
use Rattle.json_print.proofs.Batches.{types_at}
use Rattle.json_print.proofs.file.write_batches.Goals as goal

pub write_batch-requires-clause-kinds : goal.write_batch-requires-clause-kinds
write_batch-requires-clause-kinds c =
    ap (λ (b : Batch). kinds_of b.fields) c.deref.ensures
    ∙ types_at arc_value (fields_of c.args.fields.now) c.args.batches.now c.loop-batch.batch-index c.batch-item.result c.requires.types (omega arith) c.batch-item.is

use Rattle.std.proofs.Common.{arith}
use Rattle.json_print.proofs.Batches.{kind_at}
use Rattle.json_print.proofs.batch.write_columns.Goals as goal

pub write_array-requires : goal.write_array-requires
write_array-requires c =
    kind_at c.args.columns.now c.args.fields.now c.loop-place.place c.index-columns-place.result c.index-fields-place.result c.requires.kinds
    (omega (arith, c.requires.columns)) (omega arith) c.index-columns-place.is c.index-fields-place.is

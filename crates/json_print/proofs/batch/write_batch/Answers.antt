use Rattle.std.proofs.Common.{◌∙◌, List, map, ap}
use Rattle.arrays.specs.Prelude.{Seen}
use Rattle.json_print.proofs.Batches.{lawful_kinds}
use Rattle.json_print.proofs.batch.write_batch.Goals as goal

pub write_columns-requires-clause-kinds : goal.write_columns-requires-clause-kinds
write_columns-requires-clause-kinds c =
    let batch = c.args.batch.now in
    ap (λ (cs : List Seen). map (λ s. s.kind) cs) c.columns.ensures.value ∙ (lawful_kinds batch.fields batch.rows batch.columns c.columns.ensures.lawful ∙ c.requires.kinds)

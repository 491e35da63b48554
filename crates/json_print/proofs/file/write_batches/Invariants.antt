use Rattle.std.proofs.Common.{◌≡◌, ◌++◌, drop, map}
use Rattle.std.specs.Arc.{arc_value}
use Rattle.arrays.specs.Prelude.{fields_of}
use Rattle.json.specs.Tree.{items_tokens}
use Rattle.json_base.specs.Prelude.{items_outline, tables_of}
use Rattle.json_print.specs.BatchData.{batches_data}
use Rattle.json_print.proofs.file.write_batches.Given as goal

-- with the batches that are left all is written
abbrev pub invariant-loop-batch : goal.invariant-loop-batch
invariant-loop-batch l =
    l.out ++ items_tokens (items_outline (batches_data l.dictionaries (fields_of l.fields) (tables_of (map arc_value (drop l.batch-index l.batches)))))
    ≡ l.fn.out ++ items_tokens (items_outline (batches_data l.dictionaries (fields_of l.fields) (tables_of (map arc_value l.batches))))

use Rattle.std.proofs.Common.{◌≡◌, drop, map}
use Rattle.std.specs.Arc.{arc_value}
use Rattle.json_base.specs.JsonTable.{tables_of}
use Rattle.json_print.specs.Dictionaries.{column_items, with_items}
use Rattle.json_print.proofs.dictionaries.add_batches.Given as goal

-- with the batches that are left all texts are there
abbrev pub invariant-loop-batch : goal.invariant-loop-batch
invariant-loop-batch l = with_items l.texts (column_items l.place (tables_of (map arc_value (drop l.batch-index l.batches)))) ≡ with_items l.fn.texts (column_items l.place (tables_of (map arc_value l.batches)))

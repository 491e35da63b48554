use Rattle.std.proofs.Common.{map, option_map}
use Rattle.std.specs.Arc.{arc_value}
use Rattle.json_read.specs.Prelude.{AreUnder, ReadsBatch, coding_of}
use Rattle.json_base.specs.Prelude.{ReadsFirst, items_view, table_of}
use Rattle.json_read.proofs.file.read_batches.Given as goal

-- the batches so far are read
abbrev pub invariant-loop-index : goal.invariant-loop-index
invariant-loop-index l = record {
  read : ReadsFirst (ReadsBatch (arc_value l.schema) (map (option_map coding_of) l.catalog)) (items_view l.values) l.index-counter (map table_of (map arc_value l.batches.items));
  under : AreUnder (arc_value l.schema) (map arc_value l.batches.items);
}

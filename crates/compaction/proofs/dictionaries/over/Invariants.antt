use Rattle.std.proofs.Common.{map, option_map, take}
use Rattle.std.specs.Arc.{arc_value}
use Rattle.std.specs.List.{AllZip, enumerate_from}
use Rattle.arrays.specs.Batch.{rows_of}
use Rattle.compaction.specs.Under.{NamesWhole}
use Rattle.compaction.proofs.JoinedLemmas.{IsColumn}
use Rattle.compaction.proofs.dictionaries.over.Given as goal

abbrev pub invariant-loop-k : goal.invariant-loop-k
invariant-loop-k l = record {
  columns : AllZip (IsColumn (rows_of l.batch)) (take l.k (enumerate_from 0 (arc_value l.schema))) l.columns.items;
  whole : AllZip NamesWhole l.columns.items (take l.k (map (option_map arc_value) l.dictionaries));
}

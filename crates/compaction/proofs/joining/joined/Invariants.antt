use Rattle.std.proofs.Common.{map, option_map, take}
use Rattle.std.specs.Arc.{arc_value}
use Rattle.std.specs.List.{AllZip, enumerate_from}
use Rattle.compaction.specs.Prelude.{NamesFront, together}
use Rattle.compaction.proofs.FrontLemmas.{tables_of}
use Rattle.compaction.proofs.JoinedLemmas.{IsColumn}
use Rattle.compaction.proofs.joining.joined.Given as goal

abbrev pub invariant-loop-k : goal.invariant-loop-k
invariant-loop-k l = record {
  columns : AllZip (IsColumn (together (tables_of l.batches))) (take l.k (enumerate_from 0 (arc_value l.schema))) l.columns.items;
  fronts : AllZip NamesFront l.columns.items (take l.k (map (option_map arc_value) l.dictionaries));
}

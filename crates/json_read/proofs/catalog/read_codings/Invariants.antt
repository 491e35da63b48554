use Rattle.std.proofs.Common.{map, option_map}
use Rattle.json_base.specs.Prelude.{ReadsEach, items_view}
use Rattle.json_read.specs.Prelude.{AreCodings, AreWordsOf, coding_of, ids_of, parts_of}
use Rattle.json_read.proofs.catalog.read_codings.Given as goal

-- those so far are read
abbrev pub invariant-loop-index : goal.invariant-loop-index
invariant-loop-index l = record {
  kept : ReadsEach AreWordsOf (items_view l.entries.values.now) l.kept;
  codings : AreCodings (items_view l.entries.values.now) (ids_of (items_view l.entries.values.now)) (map (option_map parts_of) l.encodings) l.index (map (option_map coding_of) l.codings.items);
}

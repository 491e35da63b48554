use Rattle.std.proofs.Common.{List, map, option_map}
use Rattle.json_read.specs.Prelude.{AreCodings, Data, coding_of, no_items, parts_of}
use Rattle.json_scan.specs.Spelling.{before}
use Rattle.json_file.specs.Dictionary.{AreEntries, ids_in}
use Rattle.json_file.proofs.catalog.codings_by.Given as goal

-- those so far are read
abbrev pub invariant-loop-index : goal.invariant-loop-index
invariant-loop-index l =
    (ds : List Data) → AreEntries ds l.dictionaries.entries.items
    → AreCodings (before ds no_items) (ids_in l.dictionaries.entries.items) (map (option_map parts_of) l.encodings) l.index (map (option_map coding_of) l.codings.items)

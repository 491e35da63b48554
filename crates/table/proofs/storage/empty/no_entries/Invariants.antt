use Rattle.std.proofs.Common.{◌≡◌, [], map, option_map, take}
use Rattle.std.specs.Arc.{arc_value}
use Rattle.arrays.specs.Prelude.{fields_of}
use Rattle.table.specs.Lawful.{dictionaries_of}
use Rattle.table.proofs.storage.empty.no_entries.Given as goal

abbrev pub invariant-loop-field : goal.invariant-loop-field
invariant-loop-field l = map (option_map arc_value) l.dictionaries.items ≡ dictionaries_of (fields_of (take l.field-index l.fields)) []

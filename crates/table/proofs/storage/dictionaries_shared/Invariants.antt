use Rattle.std.proofs.Common.{◌≡◌, map, option_map, take}
use Rattle.std.specs.Arc.{arc_value}
use Rattle.table.proofs.storage.dictionaries_shared.Given as goal

abbrev pub invariant-loop-dictionary : goal.invariant-loop-dictionary
invariant-loop-dictionary l = map (option_map arc_value) l.all.items ≡ map (option_map arc_value) (take l.dictionary-index l.dictionaries)

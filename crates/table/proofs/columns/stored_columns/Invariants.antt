use Rattle.std.proofs.Common.{map, option_map}
use Rattle.std.specs.Arc.{arc_value}
use Rattle.table.proofs.RecodedLemmas.{AreStored}
use Rattle.table.proofs.columns.stored_columns.Given as goal

abbrev pub invariant-loop-k : goal.invariant-loop-k
invariant-loop-k l = AreStored l.fn.pools.items l.columns l.k l.pools.items l.stored.columns.items (map (option_map arc_value) l.stored.dictionaries.items)

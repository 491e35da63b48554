use Rattle.std.proofs.Common.{◌≡◌, ◌++◌, drop, map, take}
use Rattle.std.specs.List.{zip}
use Rattle.table.specs.Recoded.{shortened}
use Rattle.table.proofs.columns.cut_back.Given as goal

abbrev pub invariant-loop-k : goal.invariant-loop-k
invariant-loop-k l = l.pools.items ≡ map shortened (take l.k (zip l.dictionaries l.fn.pools.items)) ++ drop l.k l.fn.pools.items

use Rattle.std.proofs.Common.{rules}
use Rattle.keys.proofs.CodeSetLemmas.{none_placed}
use Rattle.keys.proofs.code_set.CodeSet.new.Goals as goal

pub invariant_of-result : goal.invariant_of-result
invariant_of-result c = none_placed c.new.result.items c.new-2.result.items c.new-3.result.items (search rules) (search rules) (search rules)

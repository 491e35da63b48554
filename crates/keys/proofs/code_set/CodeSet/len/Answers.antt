use Rattle.std.proofs.Common.{nat_eq, subst}
use Rattle.std.specs.List.{IsDistinct}
use Rattle.keys.proofs.code_set.CodeSet.len.Goals as goal

pub returns-clause-once : goal.returns-clause-once
returns-clause-once c = subst (IsDistinct nat_eq) c.self.view_is c.self.invariant.once

use Rattle.std.proofs.Common.{rules}
use Rattle.std.specs.Int.{w128}
use Rattle.std.specs.Prelude.{FitsSigned}
use Rattle.std.proofs.lemmas.Int.{to_z-of_z}
use Rattle.json_read.proofs.JsonSlots.{number_taken}
use Rattle.json_read.proofs.column.IntColumnColumnBuilder.push_value.Goals as goal

pub returns-in-Ok-clause-ok : goal.returns-in-Ok-clause-ok
returns-in-Ok-clause-ok c =
    let fits : FitsSigned w128 c.in-Some.number = search rules in
    number_taken _ _ _ _ _ c.in-Some.ensures.value (rw to_z-of_z at c.in-Ok.ensures.ok)

use Rattle.std.proofs.Common.{refl, rules}
use Rattle.std.specs.Int.{w128}
use Rattle.std.specs.Prelude.{FitsSigned}
use Rattle.std.proofs.lemmas.Int.{to_z-of_z}
use Rattle.json_file.proofs.catalog.coding_by.Goals as goal

pub returns-in-None : goal.returns-in-None
returns-in-None c = λ ds h. rw c.in-None.is tt

pub returns-in_ok-words-in-Some : goal.returns-in_ok-words-in-Some
returns-in_ok-words-in-Some c =
    let fits : FitsSigned w128 c.in-Some.encoding.id = search rules in
    λ ds h. rw c.in-Some.is (refl, (rw to_z-of_z at c.in_ok-words-in-Some.ensures) ds h)

use Rattle.std.proofs.Common.{ap, unwrap_or, rules}
use Rattle.std.specs.Int.{w128}
use Rattle.std.specs.Prelude.{FitsSigned}
use Rattle.std.proofs.lemmas.Int.{to_z-of_z}
use Rattle.json_read.specs.declared.place.Place.TheVariants.{Nowhere}
use Rattle.json_read.proofs.place.place_of.Goals as goal

pub returns-in-Some : goal.returns-in-Some
returns-in-Some c =
    let fits : FitsSigned w128 c.args.id = search rules in
    ap (λ o. unwrap_or o Nowhere) (rw to_z-of_z at c.in-Some.ensures.value)

pub returns-in-None : goal.returns-in-None
returns-in-None c =
    let fits : FitsSigned w128 c.args.id = search rules in
    ap (λ o. unwrap_or o Nowhere) (rw to_z-of_z at c.in-None.ensures.value)

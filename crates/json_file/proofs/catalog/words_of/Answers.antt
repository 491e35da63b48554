use Rattle.std.proofs.Common.{◌≡◌, arith, rules}
use Rattle.std.specs.Int.{w128}
use Rattle.std.specs.Prelude.{FitsSigned}
use Rattle.std.proofs.lemmas.Int.{to_z-of_z}
use Rattle.json_read.specs.PlaceParts.{place_at}
use Rattle.json_read.specs.declared.place.Place.TheVariants.{At}
use Rattle.json_file.proofs.CatalogLemmas.{dictionary_of, placed_within}
use Rattle.json_file.proofs.catalog.words_of.Goals as goal

pub index-entry-requires : goal.index-entry-requires
index-entry-requires c =
    let fits : FitsSigned w128 c.args.id = search rules in
    let is : At c.in-At.index ≡ place_at c.args.dictionaries.now.places c.args.id = rw to_z-of_z at c.in-At.ensures in
    let within = placed_within c.args.dictionaries.now c.args.id c.in-At.index c.requires is in
    omega (arith, within, c.args.dictionaries.now.entries.ok)

pub returns-in-Ok : goal.returns-in-Ok
returns-in-Ok c =
    let fits : FitsSigned w128 c.args.id = search rules in
    let is : At c.in-At.index ≡ place_at c.args.dictionaries.now.places c.args.id = rw to_z-of_z at c.in-At.ensures in
    λ ds h. rw c.in-Ok.ensures.cases (dictionary_of ds c.args.dictionaries.now c.args.id c.in-At.index c.index-entry.result.now _ c.requires is c.index-entry.ensures c.in-Some.is h)

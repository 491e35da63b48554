use Rattle.std.proofs.Common.{◌∙◌, Some, get_or, pos, ap, sym, to_z, of_z, rules}
use Rattle.std.specs.Int.{w128}
use Rattle.std.specs.Prelude.{FitsSigned}
use Rattle.std.proofs.lemmas.Int.{to_z-of_z}
use Rattle.std.proofs.lemmas.Option.{slice_get-get_or}
use Rattle.json_read.specs.PlaceParts.{next_place}
use Rattle.json_read.proofs.Places.{places_added}
use Rattle.json_read.proofs.place.add_place.Goals as goal

pub returns-in-Ok-clause-ok : goal.returns-in-Ok-clause-ok
returns-in-Ok-clause-ok c =
    let id = get_or c.args.ids.now c.args.index (pos 0) in
    let fits : FitsSigned w128 id = search rules in
    let at = slice_get-get_or c.args.ids.now c.args.index (pos 0) c.requires.within in
    places_added c.args.ids.now (to_z w128 (of_z w128 id)) c.args.index _ c.args.places.now c.insert.new.self c.requires.before (at ∙ ap Some (sym (to_z-of_z w128 id fits)))
    (c.next_place-place.ensures ∙ ap (next_place c.args.index) c.place_of.ensures) c.in-Ok.ensures.updates

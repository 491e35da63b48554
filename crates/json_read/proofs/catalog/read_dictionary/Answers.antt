use Rattle.std.proofs.Common.{◌≡◌, arith, length, rules}
use Rattle.std.specs.Int.{w128}
use Rattle.std.specs.Prelude.{FitsSigned}
use Rattle.std.proofs.lemmas.Int.{to_z-of_z}
use Rattle.json_base.proofs.Views.{items_len-items_view}
use Rattle.json_base.specs.Prelude.{items_view}
use Rattle.json_read.specs.Prelude.{ids_of, place_at}
use Rattle.json_read.specs.declared.place.Place.TheVariants.{Nowhere, At, Again}
use Rattle.json_base.proofs.JsonItems.{get_item_at}
use Rattle.json_read.proofs.JsonCatalogs.{entry_within, entry_object, kept_at, kept_set, placed_at, tells_again, tells_entry, tells_nowhere}
use Rattle.json_read.proofs.catalog.read_dictionary.Goals as goal

pub bounds-entries-index : goal.bounds-entries-index
bounds-entries-index c =
    let fits : FitsSigned w128 c.args.id = search rules in
    let is : At c.in-At.index ≡ place_at c.args.entries.now.places c.args.id = rw to_z-of_z at c.in-At.ensures in
    let place = placed_at (items_view c.args.entries.now.values.now) c.args.entries.now.places c.args.id (At c.in-At.index) c.requires.placed is in
    entry_within _ _ _ _ c.requires.placed.numbered place.here

pub bounds-kept-index : goal.bounds-kept-index
bounds-kept-index c =
    let fits : FitsSigned w128 c.args.id = search rules in
    let is : At c.in-At.index ≡ place_at c.args.entries.now.places c.args.id = rw to_z-of_z at c.in-At.ensures in
    let place = placed_at (items_view c.args.entries.now.values.now) c.args.entries.now.places c.args.id (At c.in-At.index) c.requires.placed is in
    let within = entry_within c.args.entries.now.values.now _ _ _ c.requires.placed.numbered place.here in
    omega (arith, within, c.requires.kept.len, items_len-items_view c.args.entries.now.values.now)

pub share_words-requires-clause-object : goal.share_words-requires-clause-object
share_words-requires-clause-object c =
    let fits : FitsSigned w128 c.args.id = search rules in
    let is : At c.in-At.index ≡ place_at c.args.entries.now.places c.args.id = rw to_z-of_z at c.in-At.ensures in
    let place = placed_at (items_view c.args.entries.now.values.now) c.args.entries.now.places c.args.id (At c.in-At.index) c.requires.placed is in
    let within = entry_within c.args.entries.now.values.now _ _ _ c.requires.placed.numbered place.here in
    entry_object _ _ _ c.in-At.index _ c.requires.placed.numbered place.here (get_item_at c.args.entries.now.values.now c.in-At.index c.index-entries-index.result within)

pub share_words-requires-clause-kept : goal.share_words-requires-clause-kept
share_words-requires-clause-kept c =
    let fits : FitsSigned w128 c.args.id = search rules in
    let is : At c.in-At.index ≡ place_at c.args.entries.now.places c.args.id = rw to_z-of_z at c.in-At.ensures in
    let place = placed_at (items_view c.args.entries.now.values.now) c.args.entries.now.places c.args.id (At c.in-At.index) c.requires.placed is in
    let within = entry_within c.args.entries.now.values.now _ _ _ c.requires.placed.numbered place.here in
    kept_at (items_view c.args.entries.now.values.now) c.args.kept.now c.in-At.index c.index-kept-index.result _ c.requires.kept
    (get_item_at c.args.entries.now.values.now c.in-At.index c.index-entries-index.result within)
    (omega (arith, within, c.requires.kept.len, items_len-items_view c.args.entries.now.values.now))

pub returns-in-Ok-clause-kept : goal.returns-in-Ok-clause-kept
returns-in-Ok-clause-kept c =
    let fits : FitsSigned w128 c.args.id = search rules in
    let is : At c.in-At.index ≡ place_at c.args.entries.now.places c.args.id = rw to_z-of_z at c.in-At.ensures in
    let place = placed_at (items_view c.args.entries.now.values.now) c.args.entries.now.places c.args.id (At c.in-At.index) c.requires.placed is in
    let within = entry_within c.args.entries.now.values.now _ _ _ c.requires.placed.numbered place.here in
    kept_set _ _ c.in-At.index _ _ c.requires.kept (get_item_at c.args.entries.now.values.now c.in-At.index c.index-entries-index.result within) c.share_words.ensures.kept

pub returns-in-Ok-clause-ok : goal.returns-in-Ok-clause-ok
returns-in-Ok-clause-ok c =
    let fits : FitsSigned w128 c.args.id = search rules in
    let is : At c.in-At.index ≡ place_at c.args.entries.now.places c.args.id = rw to_z-of_z at c.in-At.ensures in
    let place = placed_at (items_view c.args.entries.now.values.now) c.args.entries.now.places c.args.id (At c.in-At.index) c.requires.placed is in
    let within = entry_within c.args.entries.now.values.now _ _ _ c.requires.placed.numbered place.here in
    record {
      i = c.in-At.index;
      place = place;
      entry = _;
      found = get_item_at c.args.entries.now.values.now c.in-At.index c.index-entries-index.result within;
      reads = c.in-Ok.ensures.ok;
    }

pub returns-in-Err-clause-kept : goal.returns-in-Err-clause-kept
returns-in-Err-clause-kept c =
    let fits : FitsSigned w128 c.args.id = search rules in
    let is : At c.in-At.index ≡ place_at c.args.entries.now.places c.args.id = rw to_z-of_z at c.in-At.ensures in
    let place = placed_at (items_view c.args.entries.now.values.now) c.args.entries.now.places c.args.id (At c.in-At.index) c.requires.placed is in
    let within = entry_within c.args.entries.now.values.now _ _ _ c.requires.placed.numbered place.here in
    kept_set _ _ c.in-At.index _ _ c.requires.kept (get_item_at c.args.entries.now.values.now c.in-At.index c.index-entries-index.result within) c.share_words.ensures.kept

pub returns-in-Err-clause-err : goal.returns-in-Err-clause-err
returns-in-Err-clause-err c =
    let fits : FitsSigned w128 c.args.id = search rules in
    let is : At c.in-At.index ≡ place_at c.args.entries.now.places c.args.id = rw to_z-of_z at c.in-At.ensures in
    let place = placed_at (items_view c.args.entries.now.values.now) c.args.entries.now.places c.args.id (At c.in-At.index) c.requires.placed is in
    let within = entry_within c.args.entries.now.values.now _ _ _ c.requires.placed.numbered place.here in
    tells_entry _ _ _ _ c.in-At.index _ _ _ _ c.in-Err.ensures.err place.here (get_item_at c.args.entries.now.values.now c.in-At.index c.index-entries-index.result within)
    c.under-entry.ensures c.under.ensures

pub returns-in-Nowhere-clause-err : goal.returns-in-Nowhere-clause-err
returns-in-Nowhere-clause-err c =
    let fits : FitsSigned w128 c.args.id = search rules in
    let is : Nowhere ≡ place_at c.args.entries.now.places c.args.id = rw to_z-of_z at c.in-Nowhere.ensures in
    tells_nowhere _ _ _ _ _ (placed_at (items_view c.args.entries.now.values.now) c.args.entries.now.places c.args.id Nowhere c.requires.placed is) c.no_dictionary.ensures

pub returns-in-Again-clause-err : goal.returns-in-Again-clause-err
returns-in-Again-clause-err c =
    let fits : FitsSigned w128 c.args.id = search rules in
    let is : Again c.in-Again.index ≡ place_at c.args.entries.now.places c.args.id = rw to_z-of_z at c.in-Again.ensures in
    let ids = ids_of (items_view c.args.entries.now.values.now) in
    let twice = placed_at (items_view c.args.entries.now.values.now) c.args.entries.now.places c.args.id (Again c.in-Again.index) c.requires.placed is in
    tells_again _ ids _ _ (length ids) c.in-Again.index _ twice c.at.ensures

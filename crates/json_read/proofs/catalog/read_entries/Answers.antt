use Rattle.std.proofs.Common.{length, subst}
use Rattle.json_read.specs.PlaceParts.{ArePlaces}
use Rattle.json_read.proofs.JsonCatalogs.{entries_placed, entries_read}
use Rattle.json_read.proofs.catalog.read_entries.Goals as goal

pub returns-in_ok-places-in-Ok-clause-ok : goal.returns-in_ok-places-in-Ok-clause-ok
returns-in_ok-places-in-Ok-clause-ok c = entries_read _ _ c.in-Ok.ids.items c.in_ok-values.ensures.ok c.in-Ok.ensures.ok

pub returns-in_ok-places-in-Ok-clause-placed : goal.returns-in_ok-places-in-Ok-clause-placed
returns-in_ok-places-in-Ok-clause-placed c =
    entries_placed _ c.in-Ok.ids.items c.in_ok-places-in-Ok.places c.in-Ok.ensures.ok
    (subst (λ ids. ArePlaces ids (length ids) c.in_ok-places-in-Ok.places) c.deref.ensures.value c.in_ok-places-in-Ok.ensures.ok)

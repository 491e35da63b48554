use Rattle.std.proofs.Common.{◌∷◌, [], option_map}
use Rattle.std.proofs.lemmas.List.{map-append}
use Rattle.json_read.specs.CatalogParts.{coding_of}
use Rattle.json_read.proofs.JsonCatalogs.{codings_pushed}
use Rattle.json_read.proofs.catalog.read_codings.Goals as goal

pub loop-index-preserved : goal.loop-index-preserved
loop-index-preserved c = record {
  kept = c.in_ok-coding.ensures.kept;
  codings = rw (c.in_ok-push.ensures.ok, map-append (option_map coding_of) c.loop-index.codings.items (c.in_ok-coding.coding ∷ []))
      (codings_pushed _ _ _ _ _ _ c.loop-index.invariant.codings c.in_ok-coding.ensures.ok);
}

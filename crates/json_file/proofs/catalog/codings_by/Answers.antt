use Rattle.std.proofs.Common.{◌∷◌, [], option_map, arith}
use Rattle.std.proofs.lemmas.List.{map-append}
use Rattle.json_read.specs.CatalogParts.{coding_of}
use Rattle.json_file.proofs.CatalogLemmas.{codings_more}
use Rattle.json_file.proofs.catalog.codings_by.Goals as goal

pub loop-index-preserved : goal.loop-index-preserved
loop-index-preserved c = λ ds.
    rw (c.in_ok-push.ensures, map-append (option_map coding_of) c.loop-index.codings.items (c.in_ok-coding.coding ∷ []))
    (codings_more ds _ _ _ _ _ (c.loop-index.invariant ds) (omega arith) (c.in_ok-coding.ensures ds))

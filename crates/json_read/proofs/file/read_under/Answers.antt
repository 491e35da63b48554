use Rattle.std.specs.Arc.{arc_value}
use Rattle.json_base.specs.Prelude.{view}
use Rattle.json_read.proofs.JsonFiles.{catalog_of, kinds_under}
use Rattle.json_base.proofs.JsonResults.{value_kept}
use Rattle.json_read.proofs.file.read_under.Goals as goal

pub read_batches-read-requires : goal.read_batches-read-requires
read_batches-read-requires c = catalog_of (view c.args.document.now) (arc_value c.args.schema) _ c.requires.schema c.requires.catalog

pub new-requires : goal.new-requires
new-requires c =
    kinds_under (arc_value c.args.schema) _
    (value_kept _ _ c.read_batches-read.result c.map_err.result c.in_ok-batches.batches c.map_err.ensures.cases c.in_ok-batches.was c.read_batches-read.ensures.under)

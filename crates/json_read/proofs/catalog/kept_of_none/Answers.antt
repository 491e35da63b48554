use Rattle.std.proofs.Common.{arith}
use Rattle.json_base.proofs.Views.{items_len-items_view}
use Rattle.json_read.specs.CatalogParts.{AreWordsOf}
use Rattle.json_base.proofs.JsonItems.{each_done}
use Rattle.json_read.proofs.JsonCatalogs.{kept_none}
use Rattle.json_read.proofs.catalog.kept_of_none.Goals as goal

pub loop-preserved : goal.loop-preserved
loop-preserved c = rw c.in_ok-push.ensures.ok (kept_none _ _ _ c.loop.invariant (omega (arith, items_len-items_view c.args.entries.now)))

pub returns-clause-ok : goal.returns-clause-ok
returns-clause-ok c = each_done AreWordsOf c.args.entries.now _ _ c.loop.invariant (omega arith)

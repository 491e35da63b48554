use Rattle.json_base.specs.Prelude.{ReadsFirst, items_view}
use Rattle.json_read.specs.CatalogParts.{AreWordsOf}
use Rattle.json_read.proofs.catalog.kept_of_none.Given as goal

-- nothing of those so far
abbrev pub invariant-loop : goal.invariant-loop
invariant-loop l = ReadsFirst AreWordsOf (items_view l.entries) l.index l.kept.items

use Rattle.json_base.specs.Prelude.{ReadsFirst, items_view}
use Rattle.json_read.specs.JsonCatalog.{HasId}
use Rattle.json_read.proofs.catalog.entry_ids.Given as goal

-- the numbers so far are read
abbrev pub invariant-loop-index : goal.invariant-loop-index
invariant-loop-index l = ReadsFirst HasId (items_view l.entries) l.index-counter l.ids.items

use Rattle.std.proofs.Common.{◌≡◌, take}
use Rattle.json_file.specs.Dictionary.{ids_in}
use Rattle.json_file.proofs.catalog.ids_of.Given as goal

-- the numbers so far
abbrev pub invariant-loop-entry : goal.invariant-loop-entry
invariant-loop-entry l = l.ids.items ≡ ids_in (take l.entry-index l.entries)

use Rattle.std.proofs.Common.{◌≡◌, ◌++◌, drop}
use Rattle.std.specs.Prelude.{All}
use Rattle.arrays.specs.Kind as kind
use Rattle.arrays.specs.Prelude.{Seen, joined_items}
use Rattle.select.specs.Joined.{joined_entries}
use Rattle.select.proofs.joining.dicts.entries_of.Given as goal

abbrev pub invariant-loop-view : goal.invariant-loop-view
invariant-loop-view l = (joined_items l.entries.items ++ joined_entries (drop l.view-index l.views) ≡ joined_entries l.views) × All (λ (s : Seen). s.kind ≡ kind.utf8) l.entries.items

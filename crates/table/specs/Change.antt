-- A change of what a table holds.
use Rattle.std.specs.Prelude.{◌≤◌, ◌^◌, ◌+◌, ⊤, length}
use Rattle.std.specs.Arc.{arc_value}
use Rattle.table.specs.Storage.{HasRoom, IsPut, IsSame}
use Rattle.table.specs.declared.change.Change.{Change}
use Rattle.table.specs.declared.change.Change.TheVariants.{Batch, Whole}
use Rattle.table.specs.declared.storage.Storage.{Storage}

-- There is room for what comes in, and it isn't too much.
abbrev pub CanCommit : Change → Storage → Type 0
CanCommit (Batch addition) h =
    HasRoom h × ((h.rows + (arc_value addition.batch).rows ≤ 2 ^ 40) × (length addition.moved.items ≤ length h.batches.items))
CanCommit (Whole next) h = ⊤

-- The second is the first after the change.
abbrev pub IsNext : Change → Storage → Storage → Type 0
IsNext (Batch addition) h other = IsPut addition h other
IsNext (Whole next) h other = IsSame next other

use Rattle.std.proofs.Common.{◌≡◌, ℕ, ◌-◌, ◌≤◌, All, length, map, take}
use Rattle.std.specs.Arc.{arc_value}
use Rattle.std.specs.declared.alloc.Global.{Global}
use Rattle.std.specs.declared.sync.Arc.{Arc}
use Rattle.arrays.specs.Batch.{Batch, Table, rows_of}
use Rattle.table.specs.Prelude.{IsExportPlace, IsUnder, batches_of, book_of, book_rows, passed, show}
use Rattle.table.proofs.export.entry_batches.Given as goal

-- the batches so far are those of the first entries, and the place is behind them
abbrev pub invariant-loop-i : goal.invariant-loop-i
invariant-loop-i l = record {
  rows : map (λ (b : Arc Batch Global). rows_of (arc_value b)) l.batches.items ≡ take l.i (map (λ (e : ℕ × Table). e.1) (show l.storage).history);
  under : All (λ (b : Arc Batch Global). IsUnder (show l.storage).fields (arc_value b)) l.batches.items;
  behind : passed (batches_of l.storage) l.place ≡ book_rows (take l.i (book_of l.storage));
  place : IsExportPlace (batches_of l.storage) l.place;
  within : l.place.batch ≤ length l.storage.batches.items - 1;
}

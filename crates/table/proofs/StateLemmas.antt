-- A table that a batch is ready for.
use Rattle.std.proofs.Common.{ℕ, ◌+◌, ◌≤◌, ◌^◌, length, ap, arith}
use Rattle.std.specs.Arc.{arc_value}
use Rattle.std.specs.declared.alloc.Global.{Global}
use Rattle.std.specs.declared.sync.Arc.{Arc}
use Rattle.std.proofs.lemmas.List.{length-map}
use Rattle.arrays.specs.Batch.{Batch, rows_of, Table}
use Rattle.table.specs.Prelude.{IsAdditionOf, IsConsistent, show}
use Rattle.table.specs.declared.change.Addition.{Addition}
use Rattle.table.specs.declared.storage.Storage.{Storage}
use Rattle.table.proofs.StorageLemmas.{count-shown}
use Rattle.arrays.proofs.BatchLemmas.{length-rows_of}
use Rattle.table.proofs.PutLemmas.{Allowed-none, cause-none}

-- what moved is no more than there is
pub ready-moved : (h : Storage) (worker : ℕ) (b : Batch) (p : Addition) → IsAdditionOf h worker b p → length p.moved.items ≤ length h.batches.items
ready-moved h worker b p ready =
    omega (arith, ready.moved.few, length-map p.moved.items (λ (x : Arc Batch Global). arc_value x), length-map h.batches.items (λ (x : Arc Batch Global). arc_value x))

-- there is room for the rows of what is ready
pub ready-few : (h : Storage) (worker : ℕ) (b : Batch) (p : Addition) → IsConsistent h → IsAdditionOf h worker b p → h.rows + (arc_value p.batch).rows ≤ 2 ^ 40
ready-few h worker b p is ready =
    let free = Allowed-none (arc_value h.schema) (show h).history (rows_of b) (cause-none (arc_value h.schema) (show h).history b ready.allowed) in
    omega (arith, free.rows, count-shown h is, length-rows_of (arc_value p.batch), ap (λ (t : Table). length t) ready.rows)

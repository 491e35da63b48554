-- The history of one worker.
use Rattle.std.proofs.Common.{◌≡◌, ◌∙◌, ℕ, ◌<◌, List, [], ◌∷◌, Bool, cond, map, ap, sym, refl, arith}
use Rattle.std.proofs.lemmas.Simd.{map-map}
use Rattle.std.specs.List.{AllByRecursion, flat_map}
use Rattle.arrays.specs.Prelude.{FieldShape, Table}
use Rattle.table.specs.History.{History, of}
use Rattle.arrowtab.specs.Loaded.{IsLoaded, added_by}
use Rattle.reports.specs.FileBatches.{FileBatch, batch_tables}
use Rattle.loads.proofs.PlanLemmas.{by_recursion, planned_alone, same_test}

-- tables that worker 0 added
abbrev alone : List Table → History
alone tables = map (λ t. (0, t)) tables

-- nobody else added anything
all_own : (h : History) → AllByRecursion (λ (e : ℕ × Table). e.0 < 1) h → h ≡ alone (added_by h 0)
all_own [] all = refl
all_own (e ∷ h) all =
    let below : e.0 < 1 = all.0 in
    let first : e.0 ≡ 0 = omega (arith, below) in
    (λ j. (first j, e.1) ∷ all_own h all.1 j)
    ∙ sym (ap (λ (b : Bool). alone (map (λ (x : ℕ × Table). x.1) (cond b (e ∷ of h 0) (of h 0)))) (same_test e.0 0 first))

pub of_all_batches : (files : List (List FileBatch)) (fields : List FieldShape) (h : History) → IsLoaded 1 files fields h → h ≡ map (λ (b : FileBatch). (0, b.rows)) (flat_map (λ (batches : List FileBatch). batches) files)
of_all_batches files fields h loaded =
    all_own h (by_recursion (λ (e : ℕ × Table). e.0 < 1) h loaded.known)
    ∙ ap alone (loaded.each 0 (omega arith) ∙ ap batch_tables (planned_alone files))
    ∙ map-map (λ (t : Table). (0, t)) (λ (b : FileBatch). b.rows) (flat_map (λ (batches : List FileBatch). batches) files)

-- What workers loaded and what stopped them, from the pairs that each added.
use Rattle.std.proofs.Common.{◌≡◌, ◌≢◌, ◌∙◌, ℕ, ◌%◌, ◌<◌, List, ◌++◌, None, Some, option_map, map, take, get_or, slice_get, ap, sym, subst}
use Rattle.std.proofs.lemmas.List.{map-append, take-map}
use Rattle.std.proofs.lemmas.List.Elements.{All-map}
use Rattle.std.proofs.lemmas.Option.{slice_get-map}
use Rattle.std.proofs.lemmas.Simd.{map-map}
use Rattle.std.specs.Prelude.{All}
use Rattle.std.specs.List.{AllByRecursion}
use mathlib.Core.List.{IsPrefix}
use Rattle.arrays.specs.Prelude.{Batch, FieldShape, File, Table, rows_of}
use Rattle.loads.specs.Prelude.{batches_of_files, pairs_of, planned}
use Rattle.shared.specs.Balance.{IsOfWorkers}
use Rattle.table.specs.Prelude.{History, IsLegal, batch_cause, difference, of}
use Rattle.table.specs.declared.refusal.Refusal.{Refusal}
use Rattle.arrowtab.specs.Prelude.{IsLoaded, IsStopped, added_by, listed}
use Rattle.reports.specs.Prelude.{FileBatch, batch_of, batch_tables}
use Rattle.loads.proofs.PlanLemmas.{all_from, map_begun, planned-map}

-- ---- batches as they are seen

abbrev table_of : ℕ × Table → Table
table_of e = e.1

added_tables : (worker : ℕ) (bs : List Batch) → map table_of (pairs_of worker bs) ≡ batch_tables (map batch_of bs)
added_tables worker bs = map-map table_of (λ (b : Batch). (worker, rows_of b)) bs ∙ sym (map-map (λ (b : FileBatch). b.rows) batch_of bs)

planned_tables : (worker : ℕ) (files : List (List Batch)) (workers : ℕ) → map table_of (pairs_of worker (planned files workers worker)) ≡ batch_tables (planned (map (map batch_of) files) workers worker)
planned_tables worker files workers = added_tables worker (planned files workers worker) ∙ ap batch_tables (sym (planned-map batch_of files workers worker))

-- the fields of a batch are these
abbrev pub Fits : List FieldShape → Batch → Type 0
Fits fields b = difference fields b.fields ≡ None

alike_listed : (fields : List FieldShape) (files : List (List Batch)) → AllByRecursion (AllByRecursion (Fits fields)) files → All (All (λ (b : FileBatch). difference fields b.fields ≡ None)) (map (map batch_of) files)
alike_listed fields files alike =
    let fit : FileBatch → Type 0 = λ b. difference fields b.fields ≡ None in
    All-map (All fit) (map batch_of) files
    (λ i bs below. All-map fit batch_of (get_or files i bs) (all_from (Fits fields) (get_or files i bs) (all_from (AllByRecursion (Fits fields)) files alike i bs below)))

-- ---- what was loaded

pub loaded_of : (workers : ℕ) (files : List File) (fields : List FieldShape) (h : History) → AllByRecursion (AllByRecursion (Fits fields)) (batches_of_files files) → IsOfWorkers workers h
    → ((w : ℕ) → w < workers → of h w ≡ pairs_of w (planned (batches_of_files files) workers w)) → IsLegal fields h → IsLoaded workers (listed files) fields h
loaded_of workers files fields h alike known each legal = record {
  alike = alike_listed fields (batches_of_files files) alike;
  known = known;
  each = λ w below. ap (map table_of) (each w below) ∙ planned_tables w (batches_of_files files) workers;
  legal = legal;
}

-- ---- what stopped it

fronts_listed : (files : List (List Batch)) (workers file number : ℕ) (bs : List Batch)
    → map table_of (pairs_of (file % workers) (planned (take file files) workers (file % workers) ++ take number bs))
    ≡ batch_tables (planned (take file (map (map batch_of) files)) workers (file % workers) ++ take number (map batch_of bs))
fronts_listed files workers file number bs =
    let own = file % workers in
    let before = planned (take file files) workers own in
    added_tables own (before ++ take number bs)
    ∙ ap batch_tables (map-append batch_of before (take number bs))
    ∙ ap (λ (l : List FileBatch). batch_tables (map batch_of before ++ l)) (sym (take-map batch_of number bs))
    ∙ ap (λ (l : List FileBatch). batch_tables (l ++ take number (map batch_of bs)))
    (sym (planned-map batch_of (take file files) workers own) ∙ ap (λ (fs : List (List FileBatch)). planned fs workers own) (sym (take-map (map batch_of) file files)))

pub stopped_of : (workers : ℕ) (files : List File) (fields : List FieldShape) (file number : ℕ) (refusal : Refusal) (bs : List Batch) (b : Batch) (h : History)
    → slice_get (batches_of_files files) file ≡ Some bs → slice_get bs number ≡ Some b → IsOfWorkers workers h
    → of h (file % workers) ≡ pairs_of (file % workers) (planned (take file (batches_of_files files)) workers (file % workers) ++ take number bs)
    → ((w : ℕ) → w < workers → w ≢ file % workers → IsPrefix (of h w) (pairs_of w (planned (batches_of_files files) workers w)))
    → IsLegal fields h → batch_cause fields h b ≡ Some refusal → IsStopped workers (listed files) fields file number refusal
stopped_of workers files fields file number refusal bs b h there inside known own others legal stands = record {
  batches = map batch_of bs;
  batch = batch_of b;
  history = h;
  in_files = slice_get-map (map batch_of) (batches_of_files files) file ∙ ap (option_map (map batch_of)) there;
  in_file = slice_get-map batch_of bs number ∙ ap (option_map batch_of) inside;
  known = known;
  own = ap (map table_of) own ∙ fronts_listed (batches_of_files files) workers file number bs;
  others = λ w below other.
      subst (λ (l : List Table). IsPrefix (added_by h w) l) (planned_tables w (batches_of_files files) workers)
      (map_begun table_of (of h w) (pairs_of w (planned (batches_of_files files) workers w)) (others w below other));
  legal = legal;
  stands = stands;
}

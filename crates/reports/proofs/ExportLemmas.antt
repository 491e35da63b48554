-- A table's file, and the history that it is made of.
use Rattle.std.proofs.Common.{◌≡◌, ◌∙◌, ℕ, List, [], ◌∷◌, None, length, map, ap, sym, arith, refl}
use Rattle.std.proofs.lemmas.List.{get_or-map, length-map}
use Rattle.std.proofs.lemmas.List.FromFn.{fill_by_all}
use Rattle.std.proofs.lemmas.Simd.{map-map}
use Rattle.std.specs.List.{AllByRecursion, range_with_len}
use Rattle.arrays.specs.Batch.{Table as Rows, column, rows_of}
use Rattle.arrays.specs.Prelude.{Batch, FieldShape, File, Seen, no_entries}
use Rattle.arrays.specs.Kind as kind
use Rattle.arrow_json.specs.Prelude.{document, items_of, table_of, tables_of, text}
use Rattle.serde_json.specs.Written.{compact_text}
use Rattle.table.specs.Prelude.{History, IsLawful}
use Rattle.arrays.proofs.BatchLemmas.{column-is, length-rows_of, whole}
use Rattle.reports.specs.Exported.{added_table}

-- a lawful batch is the table of its rows
table-added : (fields : List FieldShape) (b : Batch) → b.fields ≡ fields → IsLawful b → table_of b ≡ added_table fields (rows_of b)
table-added fields b same lawful =
    let count : length b.columns ≡ length fields = (whole b.fields b.rows b.columns lawful).count ∙ ap (λ (f : List FieldShape). length f) same in
    let empty : Seen = record { kind = kind.boolean; validity = None; items = []; codes = []; entries = no_entries } in
    let columns : items_of b.columns ≡ map (column (rows_of b)) (range_with_len 0 (length fields)) =
    fill_by_all (column (rows_of b)) (items_of b.columns) (length fields) [] (length-map b.columns (λ (c : Seen). c.items) ∙ count)
    (λ k below. get_or-map (λ (c : Seen). c.items) b.columns k empty [] (omega (arith, below, count)) ∙ sym (column-is b k empty lawful (omega (arith, below, count)))) in
    λ i. record { rows = sym (length-rows_of b) i; columns = columns i }

tables-added : (own fields : List FieldShape) (bs : List Batch) → own ≡ fields → AllByRecursion (λ (b : Batch). b.fields ≡ own) bs → AllByRecursion IsLawful bs
    → tables_of bs ≡ map (added_table fields) (map rows_of bs)
tables-added own fields [] same under lawful = refl
tables-added own fields (b ∷ bs) same under lawful = λ i. table-added fields b (under.0 ∙ same) lawful.0 i ∷ tables-added own fields bs same under.1 lawful.1 i

-- the text of the file is that of the history
pub text-exported : (fields : List FieldShape) (h : History) (f : File) → f.fields ≡ fields → map rows_of f.batches ≡ map (λ (e : ℕ × Rows). e.1) h
    → AllByRecursion (λ (b : Batch). b.fields ≡ f.fields) f.batches → AllByRecursion IsLawful f.batches
    → text f ≡ compact_text (document fields (map (λ (e : ℕ × Rows). added_table fields e.1) h))
unfolding text
text-exported fields h f same tables under lawful =
    let all = tables-added f.fields fields f.batches same under lawful ∙ ap (map (added_table fields)) tables ∙ map-map (added_table fields) (λ (e : ℕ × Rows). e.1) h in
    λ i. compact_text (document (same i) (all i))

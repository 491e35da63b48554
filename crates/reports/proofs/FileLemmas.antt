-- The batches of files, as the files' bytes say them.
use Rattle.std.proofs.Common.{◌≡◌, ℕ, List, [], ◌∷◌, get_or, map, ap, sym, refl}
use Rattle.std.proofs.lemmas.Simd.{map-map}
use Rattle.std.specs.List.{AllByRecursion, range_with_len}
use Rattle.arrays.specs.Batch as batch
use Rattle.arrays.specs.Prelude.{Batch, FieldShape, File, Item, Seen, null}
use Rattle.arrow_json.specs.Prelude.{AreUnder, FileData, file_of, table_of}
use Rattle.arrow_json.specs.JsonTable as read
use Rattle.reports.specs.FileBatches.{FileBatch, batch_of, batches_with_fields}

rows_of_table : (b : Batch) → read.rows_of (table_of b) ≡ batch.rows_of b
rows_of_table b = ap (λ (f : ℕ → List Item). map f (range_with_len 0 b.rows)) (λ j. λ i. map-map (λ (c : List Item). get_or c i null) (λ (s : Seen). s.items) b.columns j)

abbrev pub data_of : List File → List FileData
data_of files = map file_of files

abbrev pub AreKept : List File → Type 0
AreKept files = AllByRecursion (λ f. AreUnder f.fields f.batches) files

abbrev pub seen_under : List FieldShape → List Batch → List FileBatch
seen_under fields bs = batches_with_fields (record { fields = fields; tables = map table_of bs })

pub file-listed : (fields : List FieldShape) (bs : List Batch) → AreUnder fields bs → seen_under fields bs ≡ map batch_of bs
file-listed fields [] under = refl
file-listed fields (b ∷ bs) under = λ i. record { fields = sym under.0 i; rows = rows_of_table b i } ∷ file-listed fields bs under.1 i

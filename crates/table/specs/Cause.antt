-- What a table refuses, and the histories of those that refused nothing.
use Rattle.std.specs.Prelude.{◌≡◌, ◌∷◌, ◌++◌, ◌&&◌, ◌||◌, ℕ, ◌+◌, ◌-◌, ◌^◌, ◌==◌, nat_lt, List, [], length, map, not, Bool, Option, Some, None, option_map, position, All, if◌then◌else◌}
use Rattle.std.specs.List.{enumerate_from, AllZip, zip}
use Rattle.std.specs.Str.{bytes_eq}
use Rattle.std.specs.Bool.{then_some}
use Rattle.arrays.specs.Prelude.{Batch, FieldShape, IsItemOf, Item, Row, Table, column, first, is_null, is_nullable, kind_of_field, name_of, rows_of, same_kind}
use Rattle.pool.specs.Texts.{firsts, is_too_full, texts_of}
use Rattle.table.specs.History.{History, rows}
use Rattle.table.specs.Stored.{is_text_field, stored_kind}
use Rattle.table.specs.declared.refusal.Refusal.{Refusal}
use Rattle.table.specs.declared.refusal.Refusal.TheVariants.{SchemaDiffers, NullInNonNullable, TableFull, BookFull, TextsFull}

-- ---- refusals

-- The name or the stored type of the second field isn't that of the first.
abbrev pub differs : FieldShape × FieldShape → Bool
differs p = not (bytes_eq (name_of p.0) (name_of p.1)) || not (same_kind (kind_of_field p.0) (stored_kind (kind_of_field p.1)))

-- The least column that differs. Where none does and one has more columns, how many the other has.
abbrev pub difference : List FieldShape → List FieldShape → Option ℕ
difference stored handed = first (
    position differs (zip stored handed)
    ∷ (if length stored == length handed then None else Some (length (zip stored handed)))
    ∷ [])

-- The least row with a null item, in a column whose field may hold none.
abbrev pub null_row : FieldShape → List Item → Option ℕ
null_row f items = if is_nullable f then None else position is_null items

-- The field at place k holds a null item that it may not hold.
abbrev pub null_in : Table → ℕ × FieldShape → Option Refusal
null_in t field = option_map (λ row. NullInNonNullable field.0 row) (null_row field.1 (column t field.0))

-- The least column with a null item that it may not hold, and its least such row. ("Schema message", nullable)
unfoldable pub null_cause : List FieldShape → Table → Option Refusal
null_cause fields t = first (map (null_in t) (enumerate_from 0 fields))

-- With the table there would be more than 2^40 rows.
abbrev pub is_table_full : History → Table → Bool
is_table_full h t = nat_lt (2 ^ 40) (length (rows h) + length t)

-- There are 2^32 - 1 pairs.
abbrev pub is_book_full : History → Bool
is_book_full h = length h == 2 ^ 32 - 1

-- The texts at place k, each once, would be more than a dictionary holds.
abbrev pub full_in : History → Table → ℕ × FieldShape → Option Refusal
full_in h t field =
    then_some (is_text_field field.1 && is_too_full (firsts (texts_of (column (rows h ++ t) field.0)))) (TextsFull field.0)

-- The least column of texts with more of them than a dictionary holds.
unfoldable pub texts_cause : List FieldShape → History → Table → Option Refusal
texts_cause fields h t = first (map (full_in h t) (enumerate_from 0 fields))

-- The first refusal that stands for a table after the history, none where it is admitted.
abbrev pub cause : List FieldShape → History → Table → Option Refusal
cause fields h t = first (
    null_cause fields t
    ∷ then_some (is_table_full h t) TableFull
    ∷ then_some (is_book_full h) BookFull
    ∷ texts_cause fields h t
    ∷ [])

-- The same for a table that is handed in with fields of its own, which have to be those of the history.
abbrev pub handed_cause : List FieldShape → History → List FieldShape → Table → Option Refusal
handed_cause fields h handed t = first (option_map (λ c. SchemaDiffers c) (difference fields handed) ∷ cause fields h t ∷ [])

-- The same for a batch.
abbrev pub batch_cause : List FieldShape → History → Batch → Option Refusal
batch_cause fields h b = handed_cause fields h b.fields (rows_of b)

-- The first of them before the texts are looked at.
abbrev pub early_cause : List FieldShape → History → Batch → Option Refusal
early_cause fields h b = first (
    option_map (λ c. SchemaDiffers c) (difference fields b.fields)
    ∷ null_cause fields (rows_of b)
    ∷ then_some (is_table_full h (rows_of b)) TableFull
    ∷ then_some (is_book_full h) BookFull
    ∷ [])

-- ---- legal histories

-- The row has one item a field, of the field's kind. ("RecordBatch")
abbrev pub IsRowOf : List FieldShape → Row → Type 0
IsRowOf fields row = AllZip (λ f x. IsItemOf (kind_of_field f) x) fields row

abbrev pub IsTableOf : List FieldShape → Table → Type 0
IsTableOf fields t = All (IsRowOf fields) t

-- The rows of each pair are rows of the fields, and nothing stood against them after the pairs before.
pub record IsLegal (fields : List FieldShape) (h : History) : Type 0 where
  pub shaped : All (λ e. IsTableOf fields e.1) h
  pub allowed : (before rest : History) (e : ℕ × Table) → h ≡ before ++ e ∷ rest → cause fields before e.1 ≡ None

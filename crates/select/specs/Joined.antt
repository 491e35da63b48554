-- Columns one after the other.
use Rattle.std.specs.Prelude.{◌≡◌, ℕ, ◌+◌, ◌*◌, ◌<◌, ◌+ℤ◌, pos, ◌||◌, List, [], ◌∷◌, ◌++◌, map, flat_map, length, take, slice_index_or, Bool, true, false, not, Option, Some, None, if◌then◌else◌}
use Rattle.std.specs.List.{All, list_all, range_with_len}
use Rattle.arrays.specs.Prelude.{IntType, Item, Kind, Seen, bytes_of, entries_shown, int, is_code, is_null, is_past, is_too_big, joined_items, looked_up, null, number_at, same_kind, shown, utf8, valid_at, validity_of}
use Rattle.arrays.specs.Kind.{dict}
use Rattle.select.specs.declared.fault.SelectFault.{SelectFault}
use Rattle.select.specs.declared.fault.SelectFault.TheVariants.{TypesDiffer}

-- Which slots of all columns are valid, by their validity alone.
abbrev pub joined_valid : List Seen → List Bool
joined_valid columns = flat_map (λ s. map (valid_at s) (range_with_len 0 (length s.items))) columns

-- The validity alone tells which items are null.
abbrev pub TellsNulls : Seen → Type 0
TellsNulls s = (j : ℕ) → j < length s.items → is_null (slice_index_or s.items j null) ≡ not (valid_at s j)

-- The values have a number for each item: the item itself, where it isn't null.
pub record AreNumbersOf (t : IntType) (items : List Item) (values : List ℕ) : Type 0 where
  pub size : length values ≡ length items * bytes_of t.bits
  pub numbers : (j : ℕ) → j < length items → is_null (slice_index_or items j null) ≡ false → slice_index_or items j null ≡ int (number_at t values j)

-- How many slots of all columns come before each of the first n columns.
pub record AreStarts (columns : List Seen) (n : ℕ) (starts : List ℕ) : Type 0 where
  pub count : length starts ≡ n
  pub each : (k : ℕ) → k < n → slice_index_or starts k 0 ≡ length (joined_items (take k columns))

-- Slot i of all columns is slot j of column k.
pub record IsPlace (columns : List Seen) (i k j : ℕ) : Type 0 where
  pub column : k < length columns
  pub start : length (joined_items (take k columns)) + j ≡ i
  pub end : i < length (joined_items (take (k + 1) columns))

-- The entries of all dictionaries.
abbrev pub joined_entries : List Seen → List Item
joined_entries columns = flat_map (λ s. s.entries.items) columns

-- A code whose dictionary comes after so many entries.
abbrev pub shifted : ℕ → Item → Item
shifted before (int z) = int (z +ℤ pos before)
shifted before code = code

-- The codes of all columns, whose dictionaries come one after the other, after so many entries.
abbrev pub joined_codes : ℕ → List Seen → List Item
joined_codes before [] = []
joined_codes before (s ∷ rest) = map (shifted before) s.codes ++ joined_codes (before + length s.entries.items) rest

-- Each item is the entry that its code names, and each code names one.
pub record IsEncoded (s : Seen) : Type 0 where
  pub items : s.items ≡ map (looked_up s.entries.items) s.codes
  pub within : All (λ c. is_code (length s.entries.items) c ≡ true) s.codes

-- What an array of them shows.
abbrev pub joined : Kind → List Seen → Seen
joined dict columns = record {
  kind = dict;
  validity = validity_of (joined_codes 0 columns);
  items = joined_items columns;
  codes = joined_codes 0 columns;
  entries = entries_shown (shown utf8 (joined_entries columns));
}
joined k columns = shown k (joined_items columns)

-- ---- what is refused

-- The kind of the first column, any where there is none.
abbrev pub kind_of_first : List Seen → Kind
kind_of_first [] = utf8
kind_of_first (s ∷ rest) = s.kind

abbrev pub are_one_kind : List Seen → Bool
are_one_kind columns = list_all (λ (s : Seen). same_kind s.kind (kind_of_first columns)) columns

-- The columns aren't of one type.
abbrev pub concat_fault : List Seen → Option SelectFault
concat_fault columns = if are_one_kind columns then None else Some TypesDiffer

-- Texts, items of lists, or dictionaries that are too big together.
abbrev pub is_content_too_big : Kind → List Seen → Bool
is_content_too_big dict columns = is_past (length (joined_entries columns)) || is_too_big utf8 (joined_entries columns)
is_content_too_big k columns = is_too_big k (joined_items columns)

-- More slots than an array may have, or too big by what they hold.
abbrev pub is_joined_too_big : Kind → List Seen → Bool
is_joined_too_big k columns = is_past (length (joined_items columns)) || is_content_too_big k columns

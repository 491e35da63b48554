-- Offsets of texts and lists (Arrow columnar format, "Variable-size binary layout", "Variable-size list layout").
use Rattle.std.specs.Prelude.{◌≡◌, ℕ, ◌+◌, ◌-◌, ◌*◌, ◌<◌, ◌≤◌, List, map, false, length, slice_index_or}
use Rattle.std.specs.List.{range_with_len}
use Rattle.colbits.specs.Slice.{slice}
use Rattle.types.specs.declared.offset_width.OffsetWidth.{OffsetWidth}
use Rattle.types.specs.Prelude.{is_negative, natural, number_at, offset_type, size_of}

-- ---- as numbers

-- Where slot j begins, and how long it is.
abbrev pub start_of : List ℕ → ℕ → ℕ
start_of offsets j = slice_index_or offsets j 0

abbrev pub length_of : List ℕ → ℕ → ℕ
length_of offsets j = start_of offsets (j + 1) - start_of offsets j

-- What a slot holds of the values behind one another: bytes of a text, items of a list.
abbrev pub of_slot : {A : Type 0} → List ℕ → List A → ℕ → List A
of_slot offsets values j = slice values (start_of offsets j) (length_of offsets j)

-- Offsets of n slots: one more than slots, none below the one before it, the last at most `most`.
pub record AreOffsets (n : ℕ) (offsets : List ℕ) (most : ℕ) : Type 0 where
  pub size : length offsets ≡ n + 1
  pub rising : (j : ℕ) → j < n → start_of offsets j ≤ start_of offsets (j + 1)
  pub last : start_of offsets n ≤ most

-- ---- as bytes

-- The same where the offsets lie in bytes, each as wide as w says. Bytes that aren't there read as 0, so that at length 0 no
-- bytes stand for the one offset 0.
abbrev pub start_at : OffsetWidth → List ℕ → ℕ → ℕ
start_at w bytes j = natural (number_at (offset_type w) bytes j)

abbrev pub length_at : OffsetWidth → List ℕ → ℕ → ℕ
length_at w bytes j = start_at w bytes (j + 1) - start_at w bytes j

abbrev pub slot_at : {A : Type 0} → OffsetWidth → List ℕ → List A → ℕ → List A
slot_at w bytes values j = slice values (start_at w bytes j) (length_at w bytes j)

-- The offsets of n slots from slot `start` on, as numbers.
abbrev pub offsets_in : OffsetWidth → List ℕ → ℕ → ℕ → List ℕ
offsets_in w bytes start n = map (start_at w bytes) (range_with_len start (n + 1))

-- Bytes that are offsets of n slots, none of them negative.
pub record AreOffsetBytes (w : OffsetWidth) (n : ℕ) (bytes : List ℕ) (most : ℕ) : Type 0 where
  pub size : (n + 1) * size_of w ≤ length bytes
  pub counted : (j : ℕ) → j ≤ n → is_negative (number_at (offset_type w) bytes j) ≡ false
  pub rising : (j : ℕ) → j < n → start_at w bytes j ≤ start_at w bytes (j + 1)
  pub last : start_at w bytes n ≤ most

-- The bytes of these offsets, each as wide as w says.
pub record AreBytesOf (w : OffsetWidth) (bytes offsets : List ℕ) : Type 0 where
  pub size : length bytes ≡ length offsets * size_of w
  pub counted : (j : ℕ) → j < length offsets → is_negative (number_at (offset_type w) bytes j) ≡ false
  pub starts : (j : ℕ) → j < length offsets → start_at w bytes j ≡ start_of offsets j

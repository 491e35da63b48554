-- Columns of truth values, texts and lists in the making.
use Rattle.std.specs.Prelude.{◌≡◌, ℕ, ◌+◌, ◌*◌, ◌<◌, ◌≤◌, List, [], ◌∷◌, Bool, false, map, take, drop, length, if◌then◌else◌, slice_index_or, Option, Some, None, option_map}
use Rattle.std.specs.List.{range_with_len, All}
use Rattle.std.specs.Str.{IsUtf8}
use Rattle.colbits.specs.Bit.{bits}
use Rattle.types.specs.declared.offset_width.OffsetWidth.{OffsetWidth}
use Rattle.types.specs.Prelude.{most_of, most_slots, size_of}
use Rattle.layout.specs.Prelude.{AreOffsetBytes, Item, boolean, is_valid_in, is_validity_short, length_at, length_of, null, start_at, text}
use Rattle.arrays.specs.Lengths.{total}
use Rattle.arrays.specs.Shown.{kept}

-- A truth value for each valid slot, else null.
unfoldable pub bools_where : List Bool → List Bool → List Item
bools_where values valid = map (λ j. if slice_index_or valid j false then boolean (slice_index_or values j false) else null) (range_with_len 0 (length valid))

-- The length of each valid slot, else none.
unfoldable pub lengths_where : OffsetWidth → List Bool → List ℕ → List (Option ℕ)
lengths_where w valid offsets = map (λ j. if slice_index_or valid j false then Some (length_at w offsets j) else None) (range_with_len 0 (length valid))

-- How long each of n slots is by its offsets.
abbrev pub lengths_by : List ℕ → ℕ → List (Option ℕ)
lengths_by offsets n = map (λ j. Some (length_of offsets j)) (range_with_len 0 n)

-- The offsets begin at 0 and end at `most`, and the slots that aren't valid are empty.
pub record AreFresh (w : OffsetWidth) (valid : List Bool) (offsets : List ℕ) (most : ℕ) : Type 0 where
  pub bounds : AreOffsetBytes w (length valid) offsets most
  pub first : start_at w offsets 0 ≡ 0
  pub ends : start_at w offsets (length valid) ≡ most
  pub size : length offsets ≡ (length valid + 1) * size_of w
  pub short : most ≤ most_of w
  pub empty : (j : ℕ) → j < length valid → slice_index_or valid j false ≡ false → length_at w offsets j ≡ 0

-- Slots of these lengths in memory: n offsets and one more, and a validity only where a slot isn't valid.
pub record AreLaid (w : OffsetWidth) (lengths : List (Option ℕ)) (n : ℕ) (validity : Option (List ℕ)) (offsets : List ℕ) : Type 0 where
  pub short : n ≤ most_slots
  pub long : is_validity_short n validity ≡ false
  pub bounds : AreOffsetBytes w n offsets (total lengths)
  pub first : start_at w offsets 0 ≡ 0
  pub needed : option_map (λ bytes. bits bytes 0 n) validity ≡ kept (map (is_valid_in validity) (range_with_len 0 n))
  pub slots : lengths ≡ map (λ j. if is_valid_in validity j then Some (length_at w offsets j) else None) (range_with_len 0 n)
  pub empty : (j : ℕ) → j < n → is_valid_in validity j ≡ false → length_at w offsets j ≡ 0

-- Texts of these lengths, cut one after the other from the bytes; null where there is no length.
abbrev pub cut_texts : List (Option ℕ) → List ℕ → List Item
cut_texts [] bytes = []
cut_texts (None ∷ lengths) bytes = null ∷ cut_texts lengths bytes
cut_texts (Some n ∷ lengths) bytes = text (take n bytes) ∷ cut_texts lengths (drop n bytes)

-- The item is UTF-8 if it is a text.
abbrev pub IsText : Item → Type 0
IsText (text t) = IsUtf8 t
IsText x = Unit {0}

-- The lengths are those of the bytes, and each text is one.
pub record AreTextsOf (lengths : List (Option ℕ)) (bytes : List ℕ) : Type 0 where
  pub whole : total lengths ≡ length bytes
  pub utf8 : All IsText (cut_texts lengths bytes)

-- The offsets of a column read back as they are printed.
use Rattle.std.proofs.Common.{◌≡◌, ◌∙◌, ℕ, zero, suc, ◌+◌, ◌*◌, ◌<◌, ◌≤◌, ◌^◌, ℤ, pos, List, [], ◌∷◌, ◌++◌, length, take, get_or, Some, refl, sym, ap, ap₂, arith, length-append, add_comm}
use Rattle.std.specs.Prelude.{slice_get, sum_by}
use Rattle.std.proofs.lemmas.Bool.{le-ltb}
use Rattle.std.proofs.lemmas.Int.{ints}
use Rattle.std.proofs.lemmas.List.Sums.{sum_by-cons, sum_by_more}
use Rattle.std.proofs.lemmas.Option.{get_or_from_slice_get, slice_get_within}
use Rattle.std.proofs.Math.Nat.{suc-mul}
use Rattle.std.proofs.Math.Seq.{take-length}
use Rattle.arrays.specs.Prelude.{AreOffsetBytes, IntType, IsOfType, Item, Narrow, OffsetWidth, Wide, bytes_of_number, is_negative, length_at, number_at, offset_type, size_of, start_at}
use Rattle.arrays.specs.Number.{natural as natural_of}
use Rattle.arrays.proofs.EncodingLemmas.{length-bytes_of_number, number_at-append-end, number_at-append-front, number_at-append-past}
use Rattle.arrays.specs.Item as column
use Rattle.json_base.specs.Prelude.{Data, ReadsEach, get_item, integer_of, items_len}
use Rattle.json_read.specs.JsonList.{SpellsOffset, offset_bytes}
use Rattle.json_print.specs.ColumnData.{item_length, offset_data, offsets_data}
use Rattle.json_laws.proofs.ReadNumbers.{number_read}

-- ---- the numbers of offsets

-- Where each slot begins, and where the last one ends.
abbrev pub starts : ℕ → List Item → List ℤ
starts start [] = pos start ∷ []
starts start (x ∷ xs) = pos start ∷ starts (start + item_length x) xs

pub length-starts : (start : ℕ) (items : List Item) → length (starts start items) ≡ suc (length items)
length-starts start [] = refl
length-starts start (x ∷ xs) = ap suc (length-starts (start + item_length x) xs)

pub length-offsets : (w : OffsetWidth) (start : ℕ) (items : List Item) → items_len (offsets_data w start items) ≡ suc (length items)
length-offsets w start [] = refl
length-offsets w start (x ∷ xs) = ap suc (length-offsets w (start + item_length x) xs)

in_range : (w : OffsetWidth) (n : ℕ) → n < 2 ^ 31 → IsOfType (offset_type w) (pos n)
in_range Narrow n small = omega (arith, ints)
in_range Wide n small = omega (arith, ints)

reported : (w : OffsetWidth) (start : ℕ) (d : Data) (z : ℤ) → start < 2 ^ 31 → Some (offset_data w start) ≡ Some d → Some (pos start) ≡ Some z → SpellsOffset w d z
reported w start d z small at is =
    let read = number_read (offset_type w) (pos start) (in_range w start small) in
    let same : offset_data w start ≡ d = cc in
    sym (ap (integer_of (offset_type w)) same) ∙ read ∙ is

offset_read : (w : OffsetWidth) (start : ℕ) (items : List Item) → start + sum_by item_length items < 2 ^ 31 → (i : ℕ) (d : Data) (z : ℤ) → get_item i (offsets_data w start items) ≡ Some d
    → slice_get (starts start items) i ≡ Some z → SpellsOffset w d z
offset_read w start [] small zero d z at is = reported w start d z (omega (arith, small)) at is
offset_read w start [] small (suc i) d z at is = absurd cc
offset_read w start (x ∷ xs) small zero d z at is = reported w start d z (omega (arith, small)) at is
offset_read w start (x ∷ xs) small (suc i) d z at is = offset_read w (start + item_length x) xs (omega (arith, small, sum_by-cons item_length x xs)) i d z at is

pub offsets_read : (w : OffsetWidth) (items : List Item) → sum_by item_length items < 2 ^ 31 → ReadsEach (SpellsOffset w) (offsets_data w 0 items) (starts 0 items)
offsets_read w items small = record { len = length-starts 0 items ∙ sym (length-offsets w 0 items); each = offset_read w 0 items (omega (arith, small)) }

-- ---- their bytes

length-bytes : (w : OffsetWidth) (numbers : List ℤ) → length (offset_bytes w numbers) ≡ length numbers * size_of w
length-bytes w [] = omega arith
length-bytes w (z ∷ zs) =
    let t = offset_type w in
    length-append (bytes_of_number t z) (offset_bytes w zs) ∙ ap₂ (λ m n. m + n) (length-bytes_of_number t z) (length-bytes w zs)
    ∙ add_comm (size_of w) (length zs * size_of w) ∙ sym (suc-mul (length zs) (size_of w))

first_number : (t : IntType) (z : ℤ) (bytes : List ℕ) → IsOfType t z → number_at t (bytes_of_number t z ++ bytes) 0 ≡ z
first_number t z bytes h =
    number_at-append-front t (bytes_of_number t z) bytes 0 (omega (arith, length-bytes_of_number t z)) ∙ number_at-append-end t [] z 0 (omega arith) h

next_number : (t : IntType) (z : ℤ) (bytes : List ℕ) (j : ℕ) → number_at t (bytes_of_number t z ++ bytes) (suc j) ≡ number_at t bytes j
next_number t z bytes j =
    ap (number_at t (bytes_of_number t z ++ bytes)) (omega arith)
    ∙ number_at-append-past t (bytes_of_number t z) bytes 1 j (omega (arith, length-bytes_of_number t z))

offset_number : (w : OffsetWidth) (start : ℕ) (items : List Item) → start + sum_by item_length items < 2 ^ 31 → (j : ℕ) → j ≤ length items
    → number_at (offset_type w) (offset_bytes w (starts start items)) j ≡ pos (start + sum_by item_length (take j items))
offset_number w start [] small zero within = first_number (offset_type w) (pos start) [] (in_range w start (omega (arith, small))) ∙ ap pos (omega arith)
offset_number w start [] small (suc j) within = absurd (omega arith)
offset_number w start (x ∷ xs) small zero within =
    first_number (offset_type w) (pos start) (offset_bytes w (starts (start + item_length x) xs)) (in_range w start (omega (arith, small))) ∙ ap pos (omega arith)
offset_number w start (x ∷ xs) small (suc j) within =
    next_number (offset_type w) (pos start) (offset_bytes w (starts (start + item_length x) xs)) j
    ∙ offset_number w (start + item_length x) xs (omega (arith, small, sum_by-cons item_length x xs)) j (omega arith)
    ∙ ap pos (omega (arith, sum_by-cons item_length x (take j xs)))

-- ---- offsets that rise

-- Where a slot begins.
pub begins : (w : OffsetWidth) (items : List Item) → sum_by item_length items < 2 ^ 31 → (j : ℕ) → j ≤ length items
    → start_at w (offset_bytes w (starts 0 items)) j ≡ sum_by item_length (take j items)
begins w items small j within = ap natural_of (offset_number w 0 items (omega (arith, small)) j within) ∙ omega arith

-- How long it is.
pub lengths : (w : OffsetWidth) (items : List Item) → sum_by item_length items < 2 ^ 31 → (j : ℕ) (x : Item) → slice_get items j ≡ Some x
    → length_at w (offset_bytes w (starts 0 items)) j ≡ item_length x
lengths w items small j x at =
    let within : j < length items = slice_get_within items j x at in
    let here = begins w items small j (omega (arith, within)) in
    let next = begins w items small (j + 1) (omega (arith, within)) in
    let more = sum_by_more item_length items j x within in
    let same : item_length (get_or items j x) ≡ item_length x = ap item_length (get_or_from_slice_get items j x x at) in
    omega (arith, here, next, more, same)

pub offsets_lawful : (w : OffsetWidth) (items : List Item) (most : ℕ) → sum_by item_length items < 2 ^ 31 → sum_by item_length items ≤ most
    → AreOffsetBytes w (length items) (offset_bytes w (starts 0 items)) most
offsets_lawful w items most small within = record {
  size =
      let as_many : length (starts 0 items) ≡ length items + 1 = omega (arith, length-starts 0 items) in
      omega (arith, length-bytes w (starts 0 items) ∙ ap (λ n. n * size_of w) as_many);
  counted = λ j below. ap is_negative (offset_number w 0 items (omega (arith, small)) j below) ∙ le-ltb (0 + sum_by item_length (take j items)) 0 (omega arith);
  rising = λ j below.
      omega (arith, begins w items small j (omega (arith, below)), begins w items small (j + 1) (omega (arith, below)), sum_by_more item_length items j column.null below);
  last = omega (arith, begins w items small (length items) (omega arith), ap (sum_by item_length) (take-length items), within);
}

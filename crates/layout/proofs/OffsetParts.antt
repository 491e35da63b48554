-- The offsets of part of an array.
use Rattle.std.proofs.Common.{◌≡◌, ◌∙◌, ℕ, ◌+◌, ◌-◌, ◌*◌, ◌<◌, ◌≤◌, pos, List, [], ◌∷◌, map, Bool, true, false, length, cond, Option, get_or, ap, sym, refl, subst, arith, zero-add}
use Rattle.std.specs.List.{list_any, range_with_len}
use Rattle.std.specs.Int.{cast_signed, from_le_bytes}
use Rattle.std.proofs.lemmas.Bool.{false≢true}
use Rattle.std.proofs.lemmas.Bool.Decides.{nat_tests}
use Rattle.std.proofs.lemmas.List.FromFn.{get_or-map-range_with_len, length-map-range_with_len}
use Rattle.std.proofs.lemmas.Nat.{row_fits}
use Rattle.colbits.specs.Slice.{slice}
use Rattle.colbits.proofs.BitLemmas.{map-range-same}
use Rattle.types.specs.declared.int_type.IntType.{IntType}
use Rattle.types.specs.Kind as kind
use Rattle.types.specs.Prelude.{Kind, bits_of, bytes_of, is_negative, most_of, natural, number_at, offset_type, size_of}
use Rattle.types.specs.declared.offset_width.OffsetWidth.{OffsetWidth}
use Rattle.types.specs.declared.offset_width.OffsetWidth.TheVariants.{Narrow, Wide}
use Rattle.types.proofs.ByteLemmas.{offset_at-empty}
use Rattle.types.proofs.RangeLemmas.{short_at}
use Rattle.layout.specs.Prelude.{AreBytesOf, AreOffsets, Buffers, Inner, are_offsets_short, bytes_at, child_length, length_at, length_of, of_slot, offset_at, offsets_in, slot_at, start_at, start_of}
use Rattle.layout.proofs.FirstFaultLemmas.{IsWhole}
use Rattle.layout.proofs.RangeLists.{map-range-below}
use Rattle.layout.proofs.OffsetLemmas.{rises_by, start-rises, text_ends, list_ends}
use Rattle.layout.proofs.RowLemmas.{any_found}
use Rattle.layout.proofs.SeenLemmas.{length-slice, slice-slice}

-- ---- numbers of part of the bytes

pub number_at-slice : (t : IntType) (bytes : List ℕ) (start len j : ℕ) → j < len
    → number_at t (slice bytes (start * bytes_of t.bits) (len * bytes_of t.bits)) j ≡ number_at t bytes (start + j)
unfolding number_at
number_at-slice t bytes start len j h =
    let w = bytes_of t.bits in
    let within : j * w + w ≤ len * w = row_fits j w len w h (omega arith) in
    let place : start * w + j * w ≡ (start + j) * w = places start j w in
    ap (λ b. cond t.signed (cast_signed (bits_of t.bits) (from_le_bytes (bits_of t.bits) b)) (pos (from_le_bytes (bits_of t.bits) b)))
    (slice-slice bytes (start * w) (len * w) (j * w) w within ∙ ap (λ s. slice bytes s w) place)
  where
    places : (s j w : ℕ) → s * w + j * w ≡ (s + j) * w
    places s j w = omega arith

-- the same of offsets
pub offset_at-slice : (w : OffsetWidth) (bytes : List ℕ) (start n j : ℕ) → j ≤ n
    → number_at (offset_type w) (slice bytes (start * size_of w) ((n + 1) * size_of w)) j ≡ number_at (offset_type w) bytes (start + j)
offset_at-slice w bytes start n j below = number_at-slice (offset_type w) bytes start (n + 1) j (omega (arith, below))

-- ---- offsets as numbers

pub length-offsets_in : (w : OffsetWidth) (bytes : List ℕ) (start n : ℕ) → length (offsets_in w bytes start n) ≡ n + 1
length-offsets_in w bytes start n = length-map-range_with_len (start_at w bytes) start (n + 1)

-- number j of some offsets is where the slot of its place begins
pub start_of-in : (w : OffsetWidth) (bytes : List ℕ) (start n j : ℕ) → j ≤ n → start_of (offsets_in w bytes start n) j ≡ start_at w bytes (start + j)
start_of-in w bytes start n j below = get_or-map-range_with_len (start_at w bytes) start (n + 1) j (start + j) 0 (omega (arith, below)) refl

pub start_of-short : (w : OffsetWidth) (bytes : List ℕ) (start n j : ℕ) → ((i : ℕ) → get_or bytes i 0 < 256) → j ≤ n → start_of (offsets_in w bytes start n) j ≤ most_of w
start_of-short w bytes start n j small below = subst (λ m. m ≤ most_of w) (sym (start_of-in w bytes start n j below)) (short_at w bytes (start + j) small)

pub length_of-in : (w : OffsetWidth) (bytes : List ℕ) (start n j : ℕ) → j < n → length_of (offsets_in w bytes start n) j ≡ length_at w bytes (start + j)
length_of-in w bytes start n j below =
    let next : start + (j + 1) ≡ start + j + 1 = omega arith in
    ap (λ e. e - start_of (offsets_in w bytes start n) j) (start_of-in w bytes start n (j + 1) (omega (arith, below)) ∙ ap (start_at w bytes) next)
    ∙ ap (λ s. start_at w bytes (start + j + 1) - s) (start_of-in w bytes start n j (omega (arith, below)))

pub of_slot-in : {A : Type 0} (w : OffsetWidth) (bytes : List ℕ) (values : List A) (start n j : ℕ) → j < n
    → of_slot (offsets_in w bytes start n) values j ≡ slot_at w bytes values (start + j)
of_slot-in w bytes values start n j below =
    ap (λ a. slice values a (length_of (offsets_in w bytes start n) j)) (start_of-in w bytes start n j (omega (arith, below)))
    ∙ ap (slice values (start_at w bytes (start + j))) (length_of-in w bytes start n j below)

-- the offsets that lie in part of the bytes
pub offsets_in-slice : (w : OffsetWidth) (bytes : List ℕ) (start n : ℕ) → offsets_in w (slice bytes (start * size_of w) ((n + 1) * size_of w)) 0 n ≡ offsets_in w bytes start n
offsets_in-slice w bytes start n =
    same_places (start_at w (slice bytes (start * size_of w) ((n + 1) * size_of w))) (start_at w bytes) start (n + 1)
    (λ j below. ap natural (offset_at-slice w bytes start n j (omega (arith, below))))
  where
    same_places : (f g : ℕ → ℕ) (start m : ℕ) → ((j : ℕ) → j < m → f j ≡ g (start + j)) → map f (range_with_len 0 m) ≡ map g (range_with_len start m)
    same_places f g start m each =
        map-range-below f (λ j. g (start + j)) 0 m (λ j below. ap f (zero-add j) ∙ each j below ∙ ap (λ k. g (start + k)) (sym (zero-add j)))
        ∙ map-range-same (λ j. g (start + j)) g 0 start m (λ j. ap (λ k. g (start + k)) (zero-add j))

-- a number in the bytes of the first offsets
front_number : (w : OffsetWidth) (bytes : List ℕ) (n j : ℕ) → j ≤ n → number_at (offset_type w) (slice bytes 0 ((n + 1) * size_of w)) j ≡ number_at (offset_type w) bytes j
front_number w bytes n j below =
    let none : 0 ≡ 0 * size_of w = omega arith in
    ap (λ start. number_at (offset_type w) (slice bytes start ((n + 1) * size_of w)) j) none ∙ offset_at-slice w bytes 0 n j below ∙ ap (number_at (offset_type w) bytes) (zero-add j)

-- the bytes that offsets from the first on lie in
pub AreBytesOf-front : (w : OffsetWidth) (bytes : List ℕ) (n : ℕ) → (n + 1) * size_of w ≤ length bytes → ((j : ℕ) → j ≤ n → is_negative (number_at (offset_type w) bytes j) ≡ false)
    → AreBytesOf w (slice bytes 0 ((n + 1) * size_of w)) (offsets_in w bytes 0 n)
AreBytesOf-front w bytes n long counted =
    let count = length-offsets_in w bytes 0 n in
    record {
      size = length-slice bytes 0 ((n + 1) * size_of w) (omega (arith, long)) ∙ ap (λ k. k * size_of w) (sym count);
      counted = λ j below. ap is_negative (front_number w bytes n j (omega (arith, below, count))) ∙ counted j (omega (arith, below, count));
      starts =
          λ j below.
          ap natural (front_number w bytes n j (omega (arith, below, count)) ∙ ap (number_at (offset_type w) bytes) (sym (zero-add j)))
          ∙ sym (start_of-in w bytes 0 n j (omega (arith, below, count)));
    }

-- Room for one offset of either width, all of it 0.
abbrev pub zeros : List ℕ
zeros = 0 ∷ 0 ∷ 0 ∷ 0 ∷ 0 ∷ 0 ∷ 0 ∷ 0 ∷ []

zeros_number : (w : OffsetWidth) → number_at (offset_type w) zeros 0 ≡ pos 0
unfolding number_at
zeros_number Narrow = refl
zeros_number Wide = refl

zeros_size : (w : OffsetWidth) → 1 * size_of w ≤ 8
zeros_size Narrow = omega arith
zeros_size Wide = omega arith

some_size : (w : OffsetWidth) → 0 < size_of w
some_size Narrow = omega arith
some_size Wide = omega arith

-- no bytes, for no slots alone
none_for_none : (w : OffsetWidth) (n : ℕ) (bytes : List ℕ) → are_offsets_short w n bytes ≡ false → length bytes ≡ 0 → n ≡ 0
none_for_none Narrow n bytes h none = grind (arith, nat_tests)
none_for_none Wide n bytes h none = grind (arith, nat_tests)

no_bytes : (bytes : List ℕ) → length bytes ≡ 0 → bytes ≡ []
no_bytes [] h = refl
no_bytes (x ∷ xs) h = absurd (omega (arith, h))

enough_for_all : (w : OffsetWidth) (n : ℕ) (bytes : List ℕ) → are_offsets_short w n bytes ≡ false → (length bytes ≡ 0 → ⊥) → (n + 1) * size_of w ≤ length bytes
enough_for_all Narrow n bytes h some = grind (arith, nat_tests)
enough_for_all Wide n bytes h some = grind (arith, nat_tests)

-- The bytes are the offsets of n slots from slot `start` of others on.
pub record ArePart (w : OffsetWidth) (bytes others : List ℕ) (start n : ℕ) : Type 0 where
  pub size : (n + 1) * size_of w ≤ length bytes
  pub counted : (j : ℕ) → j ≤ n → is_negative (number_at (offset_type w) bytes j) ≡ false
  pub same : offsets_in w bytes 0 n ≡ offsets_in w others start n

zero_counted : (w : OffsetWidth) (j : ℕ) → j ≡ 0 → is_negative (number_at (offset_type w) zeros j) ≡ false
zero_counted w j first =
    ap (λ k. is_negative (number_at (offset_type w) zeros k)) first ∙ ap is_negative (zeros_number w)

-- the one offset 0 stands for no bytes
pub absent-part : (w : OffsetWidth) (bytes : List ℕ) (start n : ℕ) → are_offsets_short w (start + n) bytes ≡ false → length bytes ≡ 0 → ArePart w zeros bytes start n
absent-part w bytes start n enough none =
    let sum = none_for_none w (start + n) bytes enough none in
    let no_slots : n ≡ 0 = omega (arith, sum) in
    let first : 0 ≡ start = omega (arith, sum) in
    record {
      size = subst (λ k. (k + 1) * size_of w ≤ 8) (sym no_slots) (zeros_size w);
      counted = λ j below. zero_counted w j (omega (arith, below, no_slots));
      same =
          ap (offsets_in w zeros 0) no_slots
          ∙ ap (λ z. natural z ∷ []) (zeros_number w ∙ sym (offset_at-empty w bytes 0 none))
          ∙ ap (λ s. offsets_in w bytes s 0) first
          ∙ ap (offsets_in w bytes start) (sym no_slots);
    }

pub slice-part : (w : OffsetWidth) (bytes : List ℕ) (start n : ℕ) → are_offsets_short w (start + n) bytes ≡ false → (length bytes ≡ 0 → ⊥)
    → ((j : ℕ) → j ≤ start + n → is_negative (number_at (offset_type w) bytes j) ≡ false)
    → ArePart w (slice bytes (start * size_of w) ((n + 1) * size_of w)) bytes start n
slice-part w bytes start n enough some counted =
    let long = enough_for_all w (start + n) bytes enough some in
    let size : start * size_of w + (n + 1) * size_of w ≡ (start + n + 1) * size_of w = omega arith in
    record {
      size = omega (arith, length-slice bytes (start * size_of w) ((n + 1) * size_of w) (omega (arith, long, size)));
      counted = λ j below. ap is_negative (offset_at-slice w bytes start n j below) ∙ counted (start + j) (omega (arith, below));
      same = offsets_in-slice w bytes start n;
    }

pub enough-part : (w : OffsetWidth) (n m : ℕ) (bytes : List ℕ) → are_offsets_short w n bytes ≡ false → m ≤ n → are_offsets_short w m bytes ≡ false
enough-part Narrow n m bytes h within = grind (arith, nat_tests)
enough-part Wide n m bytes h within = grind (arith, nat_tests)

-- ---- the offsets of a lawful array

-- Offsets of n slots, or no bytes for no slots.
pub record Rising (w : OffsetWidth) (n : ℕ) (bytes : List ℕ) (most : ℕ) : Type 0 where
  pub enough : are_offsets_short w n bytes ≡ false
  pub counted : (j : ℕ) → j ≤ n → is_negative (number_at (offset_type w) bytes j) ≡ false
  pub rising : (j : ℕ) → j < n → start_at w bytes j ≤ start_at w bytes (j + 1)
  pub ends : (j : ℕ) → j ≤ n → start_at w bytes j ≤ most

not_found : (b : Bool) → (b ≡ true → ⊥) → b ≡ false
not_found true h = absurd (h refl)
not_found false h = refl

-- where no row passes, each fails
fails-any_none : (test : ℕ → Bool) (n : ℕ) → list_any test (range_with_len 0 n) ≡ false → (j : ℕ) → j < n → test j ≡ false
fails-any_none test n h j below =
    not_found (test j) (λ passes. false≢true (sym h ∙ any_found test n j below passes))

pub rising-texts : (w : OffsetWidth) (n : ℕ) (stated : Option ℕ) (buffers : Buffers) (children : List Inner) (dictionary : Option Inner)
    → IsWhole (kind.texts w) n stated buffers children dictionary → Rising w n (bytes_at buffers 1) (length (bytes_at buffers 2))
rising-texts w n stated buffers children dictionary whole = record {
  enough = whole.data_enough;
  counted = λ j h. fails-any_none (λ i. is_negative (offset_at w buffers i)) (n + 1) whole.none_negative j (omega (arith, h));
  rising = start-rises w n buffers whole.none_decreases;
  ends = text_ends w n buffers children whole.none_decreases whole.within_end;
}

pub rising-lists : (w : OffsetWidth) (k : Kind) (n : ℕ) (stated : Option ℕ) (buffers : Buffers) (children : List Inner) (dictionary : Option Inner)
    → IsWhole (kind.lists w k) n stated buffers children dictionary → Rising w n (bytes_at buffers 1) (child_length children)
rising-lists w k n stated buffers children dictionary whole = record {
  enough = whole.data_enough;
  counted = λ j h. fails-any_none (λ i. is_negative (offset_at w buffers i)) (n + 1) whole.none_negative j (omega (arith, h));
  rising = start-rises w n buffers whole.none_decreases;
  ends = list_ends w k n buffers children whole.none_decreases whole.within_end;
}

-- those of part of it
pub AreOffsets-part : (w : OffsetWidth) (n : ℕ) (bytes : List ℕ) (most : ℕ) → Rising w n bytes most → (start len : ℕ) → start + len ≤ n → AreOffsets len (offsets_in w bytes start len) most
AreOffsets-part w n bytes most rises start len within = record {
  size = length-offsets_in w bytes start len;
  rising =
      λ j h.
      let here = start_of-in w bytes start len j (omega (arith, h)) in
      let next = start_of-in w bytes start len (j + 1) (omega (arith, h)) in
      let up = rises.rising (start + j) (omega (arith, within, h)) in
      let same : start_at w bytes (start + j + 1) ≡ start_at w bytes (start + (j + 1)) = ap (start_at w bytes) (omega arith) in
      omega (arith, here, next, up, same);
  last =
      let end = start_of-in w bytes start len len (omega arith) in
      let there = rises.ends (start + len) within in
      omega (arith, end, there);
}

-- each slot ends before the most that offsets may be
pub ends_within : (n : ℕ) (offsets : List ℕ) (most : ℕ) → AreOffsets n offsets most → (j : ℕ) → j ≤ n → start_of offsets j ≤ most
ends_within n offsets most are j below =
    let rise = rises_by (start_of offsets) n are.rising (n - j) j (omega (arith, below)) in
    let same : start_of offsets (j + (n - j)) ≡ start_of offsets n = ap (start_of offsets) (omega (arith, below)) in
    omega (arith, rise, same, are.last)

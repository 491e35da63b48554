-- Bits of picked rows, packed.
use Rattle.std.proofs.Common.{◌≡◌, ◌∙◌, ℕ, ◌+◌, ◌*◌, ◌<◌, ◌≤◌, ◌&&◌, List, Bool, false, nat_lt, cond, length, map, drop, get_or, Option, None, Some, ap, sym, refl, subst, arith, zero-add, lt-ltb, le-ltb}
use Rattle.std.specs.Prelude.{All}
use Rattle.std.specs.List.{range_with_len}
use Rattle.std.proofs.lemmas.List.{get_or-drop}
use Rattle.std.proofs.lemmas.List.FromFn.{get_or-map-range_with_len, length-map-range_with_len}
use Rattle.std.proofs.lemmas.Option.{get_or_from_slice_get}
use Rattle.arrays.specs.Prelude.{HasBits, IsBitmap, IsBitmapOf, IsBufferOf, Item, Seen, bit, bit_in, bits, boolean, bytes_for, is_validity_short, kept, null, show_bits, shown, valid_at}
use Rattle.arrays.proofs.BitLemmas.{bits-filled, get_or-bits, past-filled}
use Rattle.arrays.proofs.WordLemmas.{ArePlaces}
use Rattle.arrays.specs.Kind as kind
use Rattle.arrays.proofs.FinishedLemmas.{slot, slots_shown}
use Rattle.arrays.proofs.PartLemmas.{item_slot}
use Rattle.select.specs.Prelude.{IsPick, is_stored, picked, picked_at}
use Rattle.select.proofs.PickLemmas.{picked-by_place}

-- the bits of the rows from place a on
pub bits-here : (validity : Option (List Bool)) (picks rest : List (Option ℕ)) (a n word : ℕ) → rest ≡ drop a picks
    → ((k : ℕ) → bit_in word k ≡ (nat_lt k n && is_stored validity (get_or rest k None))) → (k : ℕ) → bit_in word k ≡ (nat_lt k n && is_stored validity (get_or picks (a + k) None))
bits-here validity picks rest a n word is reported k =
    reported k ∙ ap (λ p. nat_lt k n && is_stored validity p) (ap (λ l. get_or l k None) is ∙ get_or-drop a picks k None)

-- those of 64 rows
pub bits-word : (validity : Option (List Bool)) (picks rest : List (Option ℕ)) (a word : ℕ) → rest ≡ drop a picks
    → ((k : ℕ) → bit_in word k ≡ (nat_lt k 64 && is_stored validity (get_or rest k None))) → (j : ℕ) → j < 64 → bit_in word j ≡ is_stored validity (get_or picks (a + j) None)
bits-word validity picks rest a word is reported j below =
    bits-here validity picks rest a 64 word is reported j ∙ ap (λ b. b && is_stored validity (get_or picks (a + j) None)) (lt-ltb j 64 below)

-- packed places are a bitmap
pub packed-bitmap : (f : ℕ → Bool) (n m : ℕ) (bytes : List ℕ) → n ≡ m → ArePlaces f n bytes → IsBitmapOf bytes (map f (range_with_len 0 m))
packed-bitmap f n m bytes same all = subst (λ k. IsBitmapOf bytes (map f (range_with_len 0 k))) same (record {
  bitmap = subst (IsBitmap bytes) (sym size) (record { length_is = all.long; past = past-filled f bytes n all.bits_are });
  values_are = ap (bits bytes 0) size ∙ bits-filled f bytes n all.bits_are;
})
  where
    size : length (map f (range_with_len 0 n)) ≡ n
    size = length-map-range_with_len f 0 n

pub long-bitmap : (f : ℕ → Bool) (n m : ℕ) (bytes : List ℕ) → n ≡ m → IsBitmapOf bytes (map f (range_with_len 0 m)) → is_validity_short n (Some bytes) ≡ false
long-bitmap f n m bytes same is = le-ltb (length bytes) (bytes_for n) (omega (arith, is.bitmap.length_is, length-map-range_with_len f 0 m, same))

-- the bits that a bitmap holds, seen from its bytes
pub bits-seen : (f : ℕ → Bool) (n m : ℕ) (bytes packed : List ℕ) → n ≡ m → bytes ≡ packed → IsBitmapOf packed (map f (range_with_len 0 m)) → bits bytes 0 n ≡ map f (range_with_len 0 m)
bits-seen f n m bytes packed same are is =
    let size : n ≡ length (map f (range_with_len 0 m)) = same ∙ sym (length-map-range_with_len f 0 m) in
    ap (λ b. bits b 0 n) are ∙ ap (bits packed 0) size ∙ is.values_are

pub bits-enough : (f : ℕ → Bool) (n m : ℕ) (bytes packed : List ℕ) → n ≡ m → bytes ≡ packed → IsBitmapOf packed (map f (range_with_len 0 m)) → 0 + n ≤ 8 * length bytes
bits-enough f n m bytes packed same are is = omega (arith, is.bitmap.length_is, length-map-range_with_len f 0 m, same, ap length are)

-- ---- truth values

bit_at_place : (f : ℕ → Bool) (n j : ℕ) (bytes : List ℕ) → IsBitmapOf bytes (map f (range_with_len 0 n)) → j < n → bit bytes j ≡ f j
bit_at_place f n j bytes is below =
    let values = map f (range_with_len 0 n) in
    let within : j < length values = omega (arith, below, length-map-range_with_len f 0 n) in
    ap (bit bytes) (sym (zero-add j))
    ∙ sym (get_or-bits bytes 0 (length values) j false within)
    ∙ ap (λ l. get_or l j false) is.values_are
    ∙ get_or-map-range_with_len f 0 n j j false below (zero-add j)

slot_bit : (bits : List Bool) (s : Seen) (p : Option ℕ) (v : Bool) → HasBits bits s → IsPick (length s.items) p → v ≡ is_stored s.validity p
    → cond v (boolean (is_stored (Some bits) p)) null ≡ picked_at s.items p
slot_bit bits s None v has within valid = ap (λ b. cond b (boolean false) null) valid
slot_bit bits s (Some i) v has within valid =
    ap (λ b. cond b (boolean (get_or bits i false)) null) valid
    ∙ sym (get_or_from_slice_get s.items i (cond (valid_at s i) (boolean (get_or bits i false)) null) null (item_slot (λ j. boolean (get_or bits j false)) s i has.values within))

pub bools-picked : (bits : List Bool) (s : Seen) (picks : List (Option ℕ)) (n : ℕ) (packed : List ℕ) (buffer : Option (List ℕ)) → HasBits bits s → All (IsPick (length s.items)) picks
    → n ≡ length picks → IsBufferOf buffer (kept (map (λ j. is_stored s.validity (get_or picks j None)) (range_with_len 0 (length picks))))
    → IsBitmapOf packed (map (λ j. is_stored (Some bits) (get_or picks j None)) (range_with_len 0 (length picks))) → show_bits n buffer packed ≡ shown kind.boolean (picked s.items picks)
bools-picked bits s picks n packed buffer has within size holds is =
    let f : ℕ → Bool = λ j. is_stored s.validity (get_or picks j None) in
    let one : ℕ → Bool = λ j. is_stored (Some bits) (get_or picks j None) in
    let valid = map f (range_with_len 0 (length picks)) in
    let value : ℕ → Item = λ j. boolean (one j) in
    let m : length valid ≡ length picks = length-map-range_with_len f 0 (length picks) in
    let each : (j : ℕ) → j < length picks → slot value valid j ≡ picked_at s.items (get_or picks j None) =
    λ j below. slot_bit bits s (get_or picks j None) (get_or valid j false) has (within j None below) (get_or-map-range_with_len f 0 (length picks) j j false below (zero-add j)) in
    slots_shown kind.boolean value (λ j. boolean (bit packed j)) n valid (kept valid) buffer (size ∙ sym m) refl holds (λ j. refl)
    (λ j below. ap boolean (bit_at_place one (length picks) j packed is (omega (arith, below, size))))
    ∙ ap (λ k. shown kind.boolean (map (slot value valid) (range_with_len 0 k))) m
    ∙ ap (shown kind.boolean) (picked-by_place s.items picks (slot value valid) each)

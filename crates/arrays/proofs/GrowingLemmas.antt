-- Columns of truth values grow by one slot.
use Rattle.std.proofs.Common.{◌≡◌, ◌∙◌, ℕ, ◌<◌, ◌++◌, ◌∷◌, List, [], map, Bool, false, length, cond, get_or, Option, Some, None, ap, sym, refl, arith, zero-add, length-append, unwrap_or, is_some}
use Rattle.std.specs.List.{range_with_len}
use Rattle.std.proofs.lemmas.List.{get_or_append_left}
use Rattle.std.proofs.lemmas.List.FromFn.{map-range_with_len_more, length-map-range_with_len}
use Rattle.std.proofs.Math.Seq.{get_or-append_seam}
use Rattle.colbits.specs.Prelude.{IsBitmapOf, bit, bits}
use Rattle.colbits.proofs.BitLemmas.{get_or-bits}
use Rattle.arrays.specs.Prelude.{IsBufferOf, bools_where, item_of_bool, kept, show_bits, shown}
use Rattle.layout.specs.Item.{Item, null, boolean}
use Rattle.types.specs.Kind as kind
use Rattle.arrays.proofs.FinishedLemmas.{slots_shown}
use Rattle.layout.proofs.RangeLists.{map-range-below}

-- ---- truth values

pub length-bools_where : (values valid : List Bool) → length (bools_where values valid) ≡ length valid
unfolding bools_where
length-bools_where values valid = length-map-range_with_len (λ j. cond (get_or valid j false) (boolean (get_or values j false)) null) 0 (length valid)

pub bools_where-none : (values valid : List Bool) → valid ≡ [] → bools_where values valid ≡ []
unfolding bools_where
bools_where-none values valid none = ap (bools_where values) none

pub bools_where-push : (values valid : List Bool) (v b : Bool) → length values ≡ length valid → bools_where (values ++ v ∷ []) (valid ++ b ∷ []) ≡ bools_where values valid ++ (cond b (boolean v) null) ∷ []
unfolding bools_where
bools_where-push values valid v b size =
    let n = length valid in
    let old : ℕ → Item = λ j. cond (get_or valid j false) (boolean (get_or values j false)) null in
    let new : ℕ → Item = λ j. cond (get_or (valid ++ b ∷ []) j false) (boolean (get_or (values ++ v ∷ []) j false)) null in
    let front : (j : ℕ) → j < n → new j ≡ old j =
    λ j below.
    ap (λ p. cond p (boolean (get_or (values ++ v ∷ []) j false)) null) (get_or_append_left valid (b ∷ []) false j below)
    ∙ ap (λ p. cond (get_or valid j false) (boolean p) null) (get_or_append_left values (v ∷ []) false j (omega arith)) in
    let last : new n ≡ cond b (boolean v) null =
    ap (λ p. cond p (boolean (get_or (values ++ v ∷ []) n false)) null) (get_or-append_seam valid b [] false)
    ∙ ap (λ m. cond b (boolean (get_or (values ++ v ∷ []) m false)) null) (sym size)
    ∙ ap (λ p. cond b (boolean p) null) (get_or-append_seam values v [] false) in
    ap (λ m. map new (range_with_len 0 m)) (length-append valid (b ∷ []))
    ∙ map-range_with_len_more new 0 n n (zero-add n)
    ∙ ap (λ xs. xs ++ new n ∷ []) (map-range-below new old 0 n (λ j below. ap new (zero-add j) ∙ front j below ∙ ap old (sym (zero-add j))))
    ∙ ap (λ x. map old (range_with_len 0 n) ++ x ∷ []) last

pub bool_slot : (value : Option Bool) → cond (is_some value) (boolean (unwrap_or value false)) null ≡ item_of_bool value
bool_slot None = refl
bool_slot (Some b) = refl

bit-packed : (bytes : List ℕ) (values : List Bool) (n j : ℕ) → IsBitmapOf bytes values → n ≡ length values → j < n → bit bytes j ≡ get_or values j false
bit-packed bytes values n j is size below =
    sym (get_or-bits bytes 0 n j false below ∙ ap (bit bytes) (zero-add j))
    ∙ ap (λ m. get_or (bits bytes 0 m) j false) size
    ∙ ap (λ v. get_or v j false) is.values_are

pub bools-shown : (n : ℕ) (values valid : List Bool) (validity : Option (List Bool)) (buffer : Option (List ℕ)) (bytes : List ℕ) (bitmap : List Bool) → n ≡ length valid → length values ≡ length valid
    → validity ≡ kept valid → IsBufferOf buffer validity → IsBitmapOf bytes bitmap → bitmap ≡ values → show_bits n buffer bytes ≡ shown kind.boolean (bools_where values valid)
unfolding bools_where
bools-shown n values valid validity buffer bytes bitmap size same is holds is_packed packed_is =
    slots_shown kind.boolean (λ j. boolean (get_or values j false)) (λ j. boolean (bit bytes j)) n valid validity buffer size is holds (λ j. refl)
    (λ j below. ap boolean (bit-packed bytes bitmap n j is_packed (size ∙ sym same ∙ ap length (sym packed_is)) below ∙ ap (λ v. get_or v j false) packed_is))

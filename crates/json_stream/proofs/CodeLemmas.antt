-- Codes one after another.
use Rattle.std.proofs.Common.{◌≡◌, ◌∙◌, ℕ, ℤ, List, [], ◌∷◌, ◌++◌, length, map, true, Some, None, cond, option_and_then, refl, sym, ap, subst, arith}
use Rattle.std.specs.List.{All}
use Rattle.std.proofs.lemmas.List.{map-append}
use Rattle.std.proofs.lemmas.List.Elements.{All-push}
use Rattle.arrays.specs.Prelude.{IntType, Item, int, int32, is_code, is_of_type, looked_up}
use Rattle.json_read.specs.Prelude.{Data, HasNextItem, fitting, indices, integer_of, item, no_items, whole_of}
use Rattle.json_read.proofs.JsonCodes.{index_added, no_codes_yet}

pub integer_fits : (t : IntType) (d : Data) (z : ℤ) → whole_of d ≡ Some z → is_of_type t z ≡ true → integer_of t d ≡ Some z
integer_fits t d z whole fits = ap (option_and_then (fitting t)) whole ∙ ap (λ b. cond b (Some z) None) fits

-- what the reader of trees makes of the first index
spells_entry : (t : IntType) (entries : List Item) (d : Data) (z : ℤ) → integer_of t d ≡ Some z → is_code (length entries) (int z) ≡ true → (indices t entries).spelled d ≡ Some (looked_up entries (int z))
spells_entry t entries d z number code =
    let none = no_codes_yet t entries None (item d no_items) (record { ty = int32; items = [] }) refl refl in
    let one = index_added t entries None (item d no_items) 0 (record { ty = int32; items = [] }) (record { ty = int32; items = int z ∷ [] }) d z none refl refl number code refl refl in
    sym (one.slots.each 0 (omega arith))

pub shown_more : (entries : List Item) (x : Item) (old new : List Item) → new ≡ old ++ x ∷ [] → map (looked_up entries) new ≡ map (looked_up entries) old ++ looked_up entries x ∷ []
shown_more entries x old new grown = ap (map (looked_up entries)) grown ∙ map-append (looked_up entries) old (x ∷ [])

pub entry_with : (t : IntType) (entries : List Item) (d : Data) (z : ℤ) (old new : List Item) → whole_of d ≡ Some z → is_of_type t z ≡ true → is_code (length entries) (int z) ≡ true → new ≡ old ++ int z ∷ []
    → HasNextItem (indices t entries) (map (looked_up entries) old) d (map (looked_up entries) new)
entry_with t entries d z old new whole fits code grown = record {
  item = looked_up entries (int z);
  spelled = spells_entry t entries d z (integer_fits t d z whole fits) code;
  grown = shown_more entries (int z) old new grown;
  fits = refl;
}

pub codes_more : (n : ℕ) (x : Item) (old new : List Item) → All (λ c. is_code n c ≡ true) old → is_code n x ≡ true → new ≡ old ++ x ∷ [] → All (λ c. is_code n c ≡ true) new
codes_more n x old new all code grown = subst (All (λ c. is_code n c ≡ true)) (sym grown) (All-push (λ c. is_code n c ≡ true) old x all code)

pub no_codes : (n : ℕ) (codes : List Item) → codes ≡ [] → All (λ c. is_code n c ≡ true) codes
no_codes n codes none = subst (All (λ c. is_code n c ≡ true)) (sym none) (λ i x within. absurd (omega (arith, within)))

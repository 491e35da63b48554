-- Texts in a set.
use Rattle.std.proofs.Common.{◌≡◌, ◌∙◌, ℕ, suc, ◌+◌, ◌≤◌, ◌||◌, Bool, true, false, List, [], ◌∷◌, ◌++◌, length, map, get_or, Some, refl, sym, subst, ap, arith, append_assoc, length-append, true≢false, String, if◌then◌else◌}
use Rattle.std.specs.Prelude.{Option, None, Result, Ok, Err, OnOk, OnErr, is_some, slice_get, option_map, position}
use Rattle.std.specs.Option.{ForSome}
use Rattle.std.specs.List.{IsDistinct, list_any}
use Rattle.std.specs.Str.{bytes_eq}
use Rattle.std.specs.String.{string_bytes, string_eq}
use Rattle.std.proofs.lemmas.List.{map-append}
use Rattle.std.proofs.lemmas.List.Quantifiers.{position-Some}
use Rattle.std.proofs.lemmas.List.Folds.{list_any-append}
use Rattle.std.proofs.lemmas.Map.Keys.{IsDistinct-push}
use Rattle.std.proofs.lemmas.Cmp.{nat_list_eq_equiv}
use Rattle.std.proofs.lemmas.Option.{slice_get-get_or, slice_get-map, slice_get_within}
use Rattle.std.proofs.lemmas.Slice.Eq.{bytes_eq-Decides}
use mathlib.Core.List.{IsPrefix}
use Rattle.indexmap.specs.IndexSet.{insert_key}
use Rattle.keys.proofs.KeyLemmas.{slice_get-append}

-- A text that was found has its place.
pub text_found : {Z : Type 0} (keys : List (String Z)) (n : ℕ) (t : List ℕ) → position (λ k. bytes_eq t (string_bytes k)) keys ≡ Some n
    → slice_get (map string_bytes keys) n ≡ Some t
text_found [] n t at = absurd cc
text_found (k ∷ keys) n t at =
    let p = position-Some (λ x. bytes_eq t (string_bytes x)) (k ∷ keys) n k at in
    slice_get-map string_bytes (k ∷ keys) n ∙ ap (option_map string_bytes) (slice_get-get_or (k ∷ keys) n k p.0)
    ∙ ap Some (sym ((bytes_eq-Decides t (string_bytes (get_or (k ∷ keys) n k))).0 p.1))

pub text_there : {Z : Type 0} (keys : List (String Z)) (t : List ℕ) (r : Option ℕ) → r ≡ position (λ k. bytes_eq t (string_bytes k)) keys
    → ForSome r (λ n. slice_get (map string_bytes keys) n ≡ Some t)
text_there keys t r at n is = text_found keys n t (sym at ∙ is)

-- Whether a text is there.
text_among : {Z : Type 0} (t : List ℕ) (keys : List (String Z)) → list_any (λ k. bytes_eq t (string_bytes k)) keys ≡ list_any (bytes_eq t) (map string_bytes keys)
text_among t [] = refl
text_among t (k ∷ keys) = ap (λ b. bytes_eq t (string_bytes k) || b) (text_among t keys)

pub text_absent : {Z : Type 0} (t : List ℕ) (keys : List (String Z)) (r : Option ℕ) → is_some r ≡ list_any (λ k. bytes_eq t (string_bytes k)) keys → r ≡ None
    → list_any (bytes_eq t) (map string_bytes keys) ≡ false
text_absent t keys r found none = sym (text_among t keys) ∙ sym found ∙ ap is_some none

-- A text that isn't there comes to the end.
pub text_pushed : {Z : Type 0} (keys new : List (String Z)) (copy : String Z) (t : List ℕ) → new ≡ insert_key string_eq keys copy → string_bytes copy ≡ t
    → list_any (bytes_eq t) (map string_bytes keys) ≡ false → map string_bytes new ≡ map string_bytes keys ++ t ∷ []
text_pushed keys new copy t is copied absent =
    let none : list_any (string_eq copy) keys ≡ false = ap (λ l. list_any (λ k. bytes_eq l (string_bytes k)) keys) copied ∙ text_among t keys ∙ absent in
    ap (map string_bytes) is ∙ ap (λ b. map string_bytes (if b then keys else keys ++ copy ∷ [])) none
    ∙ map-append string_bytes keys (copy ∷ []) ∙ ap (λ l. map string_bytes keys ++ l ∷ []) copied

-- ---- texts behind others

module _ {A : Type 0} where
  pub get_behind : (xs ys : List A) (n : ℕ) → slice_get (xs ++ ys) (length xs + n) ≡ slice_get ys n
  get_behind [] ys n = let is : 0 + n ≡ n = omega arith in ap (slice_get ys) is
  get_behind (x ∷ xs) ys n =
      let is : length (x ∷ xs) + n ≡ suc (length xs + n) = omega arith in
      ap (slice_get (x ∷ (xs ++ ys))) is ∙ get_behind xs ys n

  pub get_last : (xs : List A) (x : A) → slice_get (xs ++ x ∷ []) (length xs) ≡ Some x
  get_last xs x = let is : length xs ≡ length xs + 0 = omega arith in ap (slice_get (xs ++ x ∷ [])) is ∙ get_behind xs (x ∷ []) 0

  -- One that came to the end has its place, and those before it begin the list.
  pub pushed_there : (xs ys new : List A) (x : A) → new ≡ ys ++ x ∷ [] → slice_get (xs ++ new) (length xs + length ys) ≡ Some x
  pushed_there xs ys new x is = get_behind xs new (length ys) ∙ ap (λ l. slice_get l (length ys)) is ∙ get_last ys x

  pub pushed_begins : (all xs ys new : List A) (x : A) → xs ++ ys ≡ all → new ≡ ys ++ x ∷ [] → IsPrefix all (xs ++ new)
  pushed_begins all xs ys new x are is = (x ∷ [], ap (λ l. l ++ x ∷ []) (sym are) ∙ append_assoc xs ys (x ∷ []) ∙ ap (λ l. xs ++ l) (sym is))

  -- What is found among the first has its place in all.
  pub found_before : (xs ys : List A) (n : ℕ) (x : A) → slice_get xs n ≡ Some x → slice_get (xs ++ ys) n ≡ Some x
  found_before xs ys n x at = slice_get-append xs ys n (slice_get_within xs n x at) ∙ at

-- A text that isn't in both lists isn't in the second.
pub absent_behind : (t : List ℕ) (xs ys : List (List ℕ)) → list_any (bytes_eq t) (xs ++ ys) ≡ false → list_any (bytes_eq t) ys ≡ false
absent_behind t xs ys none = go (list_any (bytes_eq t) xs) (list_any (bytes_eq t) ys) (sym (list_any-append (bytes_eq t) xs ys) ∙ none) where
  go : (a b : Bool) → (a || b) ≡ false → b ≡ false
  go true b is = absurd (true≢false is)
  go false b is = is

-- Texts apart stay so with one more that isn't there.
pub apart_pushed : (t : List ℕ) (xs ys new : List (List ℕ)) → new ≡ ys ++ t ∷ [] → IsDistinct bytes_eq (xs ++ ys) → list_any (bytes_eq t) (xs ++ ys) ≡ false
    → IsDistinct bytes_eq (xs ++ new)
apart_pushed t xs ys new is apart none =
    subst (IsDistinct bytes_eq) (append_assoc xs ys (t ∷ []) ∙ ap (λ l. xs ++ l) (sym is)) (IsDistinct-push nat_list_eq_equiv (xs ++ ys) t apart none)

-- So they do whether it was put there or not, and are at most one more.
module _ {V E : Type 0} (t : List ℕ) (ys new : List (List ℕ)) where
  pub apart_placed : (r : Result V E) (xs : List (List ℕ)) → OnOk r (new ≡ ys ++ t ∷ []) → OnErr r (new ≡ ys) → IsDistinct bytes_eq (xs ++ ys) → list_any (bytes_eq t) (xs ++ ys) ≡ false
      → IsDistinct bytes_eq (xs ++ new)
  apart_placed (Ok v) xs is same apart none = apart_pushed t xs ys new is apart none
  apart_placed (Err e) xs is same apart none = subst (λ l. IsDistinct bytes_eq (xs ++ l)) (sym same) apart

  pub few_placed : (r : Result V E) → OnOk r (new ≡ ys ++ t ∷ []) → OnErr r (new ≡ ys) → length new ≤ length ys + 1
  few_placed (Ok v) is same = omega (arith, ap length is, length-append ys (t ∷ []))
  few_placed (Err e) is same = omega (arith, ap length same)

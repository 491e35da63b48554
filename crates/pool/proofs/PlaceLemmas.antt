-- The places of texts.
use Rattle.std.proofs.Common.{◌≡◌, ◌∙◌, ℕ, ◌+◌, ◌<◌, Bool, true, false, not, ◌||◌, cond, eqb, List, [], ◌∷◌, ◌++◌, length, position, Option, None, Some, refl, sym, ap, subst, arith, length-append, map, add-zero, true≢false, Result, Ok, Err, OnOk, IfOk, if◌then◌else◌}
use Rattle.std.specs.Prelude.{nat_lt}
use Rattle.std.specs.List.{list_any, position_or_len}
use Rattle.std.specs.Str.{bytes_eq}
use Rattle.std.proofs.lemmas.Bool.{ltb-true, lt-ltb}
use Rattle.std.proofs.lemmas.Cmp.{nat_list_eq_equiv}
use Rattle.std.proofs.lemmas.List.Folds.{prefix_len-append}
use Rattle.pool.specs.Texts.{is_among, with_text, place_of}
use Rattle.pool.proofs.TextLemmas.{either}

-- What a position is made of.
abbrev answer : ℕ → ℕ → Option ℕ
answer n len = cond (nat_lt n len) (Some n) None

module _ {X : Type 0} (p : X → Bool) where
  pub position_found : (xs : List X) (k : ℕ) → position p xs ≡ Some k → (position_or_len p xs ≡ k) × (k < length xs)
  position_found xs k is =
      let n = position_or_len p xs in
      either (nat_lt n (length xs))
      (λ e. let same : n ≡ k = cc (sym (ap (λ b. cond b (Some n) None) e) ∙ is) in (same, subst (λ m. m < length xs) same (ltb-true n (length xs) e)))
      (λ e. let never : ◌≡◌ {A = Option ℕ} None (Some k) = sym (ap (λ b. cond b (Some n) None) e) ∙ is in absurd (cc never))

  pub position_is : (xs : List X) (k : ℕ) → position_or_len p xs ≡ k → k < length xs → position p xs ≡ Some k
  position_is xs k is below =
      ap (λ n. answer n (length xs)) is ∙ ap (λ b. cond b (Some k) None) (lt-ltb k (length xs) below)

  pub position-append : (xs ys : List X) (k : ℕ) → position p xs ≡ Some k → position p (xs ++ ys) ≡ Some k
  position-append xs ys k is =
      let h = position_found xs k is in
      let apart : eqb (position_or_len p xs) (length xs) ≡ false = grind (arith, h.0, h.1) in
      position_is (xs ++ ys) k
      (prefix_len-append (λ x. not (p x)) xs ys ∙ ap (λ b. cond b (length xs + position_or_len p ys) (position_or_len p xs)) apart ∙ h.0)
      (omega (arith, length-append xs ys, h.1))

  -- Nothing before a place that none passes.
  past_all : (xs : List X) → list_any p xs ≡ false → position_or_len p xs ≡ length xs
  past_all [] none = refl
  past_all (x ∷ xs) none = grind (arith, past_all xs)

  among_from_place : (xs : List X) → position_or_len p xs < length xs → list_any p xs ≡ true
  among_from_place xs below =
      either (list_any p xs) (λ h. h) (λ none. absurd (omega (arith, past_all xs none, below)))

  place_from_among : (xs : List X) → list_any p xs ≡ true → position_or_len p xs < length xs
  place_from_among [] some = absurd (true≢false (sym some))
  place_from_among (x ∷ xs) some = grind (arith, place_from_among xs)

  pub among_place : (xs : List X) → list_any p xs ≡ true → position p xs ≡ Some (position_or_len p xs)
  among_place xs some = position_is xs (position_or_len p xs) refl (place_from_among xs some)

  pub among_found : (xs : List X) (k : ℕ) → position p xs ≡ Some k → list_any p xs ≡ true
  among_found xs k is = let h = position_found xs k is in among_from_place xs (omega (arith, h.0, h.1))

  pub among_missing : (xs : List X) → position p xs ≡ None → list_any p xs ≡ false
  among_missing xs is =
      either (list_any p xs)
      (λ some. let never : ◌≡◌ {A = Option ℕ} None (Some (position_or_len p xs)) = sym is ∙ position_is xs (position_or_len p xs) refl (place_from_among xs some) in absurd (cc never))
      (λ h. h)

  pub position-push : (xs : List X) (x : X) → list_any p xs ≡ false → p x ≡ true → position p (xs ++ x ∷ []) ≡ Some (length xs)
  position-push xs x none is =
      let all = past_all xs none in
      let same : eqb (position_or_len p xs) (length xs) ≡ true = grind (arith, all) in
      position_is (xs ++ x ∷ []) (length xs)
      (prefix_len-append (λ x. not (p x)) xs (x ∷ []) ∙ ap (λ b. cond b (length xs + position_or_len p (x ∷ [])) (position_or_len p xs)) same
      ∙ ap (λ b. length xs + cond (not b) (1 + 0) 0) is ∙ add-zero (length xs))
      (omega (arith, length-append xs (x ∷ [])))

pub list_any-map : {X Y : Type 0} (p : Y → Bool) (f : X → Y) (xs : List X) → list_any p (map f xs) ≡ list_any (λ x. p (f x)) xs
list_any-map p f [] = refl
list_any-map p f (x ∷ xs) = ap (λ b. p (f x) || b) (list_any-map p f xs)

-- A text that isn't there goes after all.
pub with_text-new : (ts : List (List ℕ)) (t : List ℕ) → is_among ts t ≡ false → with_text ts t ≡ ts ++ t ∷ []
with_text-new ts t new = ap (λ b. if b then ts else ts ++ t ∷ []) new

-- And its place is the number of the others.
pub placed : {E : Type 0} (r : Result ℕ E) (ts wider : List (List ℕ)) (t : List ℕ) → is_among ts t ≡ false
    → OnOk r (wider ≡ ts ++ t ∷ []) → IfOk r (λ code. code ≡ length ts) → IfOk r (λ code. place_of wider t ≡ Some code)
placed (Ok code) ts wider t new is at = ap (λ l. place_of l t) is ∙ position-push (bytes_eq t) ts t new (nat_list_eq_equiv.refl t) ∙ ap (λ n. Some n) (sym at)
placed (Err e) ts wider t new is at = tt

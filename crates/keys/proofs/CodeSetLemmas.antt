-- Where codes stand.
use Rattle.std.proofs.Common.{◌≡◌, ◌∙◌, ℕ, ◌+◌, ◌-◌, ◌^◌, Bool, true, false, ◌||◌, List, [], ◌∷◌, ◌++◌, length, Some, Result, Ok, Err, refl, sym, ap, subst, arith, ltb, true≢false}
use Rattle.std.specs.Prelude.{OnOk, if◌then◌else◌, nat_eq, slice_get, slice_index_or}
use Rattle.std.specs.List.{IsDistinct, list_any}
use Rattle.std.proofs.lemmas.Bool.{eqb-true, ltb-false}
use Rattle.std.proofs.lemmas.Cmp.{nat_eq_equiv}
use Rattle.std.proofs.lemmas.List.Folds.{list_any-append}
use Rattle.std.proofs.lemmas.Map.Keys.{IsDistinct-push}
use Rattle.keys.specs.CodeSets.{ArePlaced, place_end}
use Rattle.keys.proofs.TextLemmas.{found_before, get_last}
use Rattle.keys.proofs.SameLemmas.{either}

-- ---- what is reported of codes, of which one more comes

abbrev bare : List ℕ
bare = []

-- Empty tables tell of none.
zero_end : (c : ℕ) → place_end bare bare c ≡ 0
zero_end c = go (ltb c (2 ^ 17)) where
  go : (a : Bool) → (if a then slice_index_or bare c 0 else slice_index_or bare (c - 2 ^ 17) 0) ≡ 0
  go true = refl
  go false = refl

pub none_placed : (codes numbers others : List ℕ) → codes ≡ [] → numbers ≡ [] → others ≡ [] → ArePlaced codes (place_end numbers others)
unfolding IsDistinct
none_placed codes numbers others p q r = subst (λ l. ArePlaced l (place_end numbers others)) (sym p) (record {
  there = λ c n is. let never : 0 ≡ n + 1 = sym (zero_of c) ∙ is in absurd (omega (arith, never));
  absent = λ c is. refl;
  once = tt;
}) where
  zero_of : (c : ℕ) → place_end numbers others c ≡ 0
  zero_of c = ap (λ l. place_end l others c) q ∙ ap (λ l. place_end bare l c) r ∙ zero_end c

pub reported_alike : (codes : List ℕ) (ends new : ℕ → ℕ) → ArePlaced codes ends → ((c : ℕ) → new c ≡ ends c) → ArePlaced codes new
reported_alike codes ends new placed alike = record {
  there = λ c n is. placed.there c n (sym (alike c) ∙ is);
  absent = λ c is. placed.absent c (sym (alike c) ∙ is);
  once = placed.once;
}

pub reported_more : (codes : List ℕ) (x end : ℕ) (ends new : ℕ → ℕ) → ArePlaced codes ends → list_any (nat_eq x) codes ≡ false → end ≡ length codes + 1
    → ((c : ℕ) → new c ≡ (if nat_eq c x then end else ends c)) → ArePlaced (codes ++ x ∷ []) new
reported_more codes x end ends new placed free last is = record { there = there; absent = absent; once = IsDistinct-push nat_eq_equiv codes x placed.once free } where
  here : (c : ℕ) → nat_eq c x ≡ true → new c ≡ end
  here c h = is c ∙ ap (λ b. if b then end else ends c) h

  apart : (c : ℕ) → nat_eq c x ≡ false → new c ≡ ends c
  apart c h = is c ∙ ap (λ b. if b then end else ends c) h

  there : (c n : ℕ) → new c ≡ n + 1 → slice_get (codes ++ x ∷ []) n ≡ Some c
  there c n at =
      either (nat_eq c x)
      (λ h. let same : n ≡ length codes = omega (arith, sym at ∙ here c h, last) in
      ap (slice_get (codes ++ x ∷ [])) same ∙ get_last codes x ∙ ap Some (sym (eqb-true c x h)))
      (λ h. found_before codes (x ∷ []) n c (placed.there c n (sym (apart c h) ∙ at)))

  absent : (c : ℕ) → new c ≡ 0 → list_any (nat_eq c) (codes ++ x ∷ []) ≡ false
  absent c at =
      either (nat_eq c x)
      (λ h. let never : 0 ≡ length codes + 1 = sym at ∙ here c h ∙ last in absurd (omega (arith, never)))
      (λ h. list_any-append (nat_eq c) codes (x ∷ [])
      ∙ ap (λ b. b || (nat_eq c x || false)) (placed.absent c (sym (apart c h) ∙ at)) ∙ ap (λ b. b || false) h)

-- ---- the two tables

abbrev far : ℕ → Bool → List ℕ → List ℕ → ℕ
far c b numbers others = if b then slice_index_or numbers c 0 else slice_index_or others (c - 2 ^ 17) 0

-- What the tables tell of codes, where one of them is reported of x.
module _ (numbers others new : List ℕ) (x end : ℕ) where
  first_put : ltb x (2 ^ 17) ≡ true → ((k : ℕ) → slice_index_or new k 0 ≡ (if nat_eq k x then end else slice_index_or numbers k 0))
      → (c : ℕ) → place_end new others c ≡ (if nat_eq c x then end else place_end numbers others c)
  first_put near put c =
      either (ltb c (2 ^ 17))
      (λ here. ap (λ b. far c b new others) here ∙ put c ∙ ap (λ b. if nat_eq c x then end else far c b numbers others) (sym here))
      (λ there.
      let differ : nat_eq c x ≡ false = apart there in
      ap (λ b. far c b new others) there ∙ ap (λ b. far c b numbers others) (sym there) ∙ sym (ap (λ b. if b then end else place_end numbers others c) differ)) where
        apart : ltb c (2 ^ 17) ≡ false → nat_eq c x ≡ false
        apart there =
            either (nat_eq c x)
            (λ h. absurd (true≢false (sym near ∙ ap (λ k. ltb k (2 ^ 17)) (sym (eqb-true c x h)) ∙ there)))
            (λ h. h)

  second_put : ltb x (2 ^ 17) ≡ false → ((k : ℕ) → slice_index_or new k 0 ≡ (if nat_eq k (x - 2 ^ 17) then end else slice_index_or others k 0))
      → (c : ℕ) → place_end numbers new c ≡ (if nat_eq c x then end else place_end numbers others c)
  second_put away put c =
      either (ltb c (2 ^ 17))
      (λ here.
      let differ : nat_eq c x ≡ false = apart here in
      ap (λ b. far c b numbers new) here ∙ ap (λ b. far c b numbers others) (sym here) ∙ sym (ap (λ b. if b then end else place_end numbers others c) differ))
      (λ there. ap (λ b. far c b numbers new) there ∙ put (c - 2 ^ 17)
      ∙ ap (λ b. if b then end else slice_index_or others (c - 2 ^ 17) 0) (same there)
      ∙ ap (λ b. if nat_eq c x then end else far c b numbers others) (sym there)) where
        apart : ltb c (2 ^ 17) ≡ true → nat_eq c x ≡ false
        apart here =
            either (nat_eq c x)
            (λ h. absurd (true≢false (sym here ∙ ap (λ k. ltb k (2 ^ 17)) (eqb-true c x h) ∙ away)))
            (λ h. h)

        same : ltb c (2 ^ 17) ≡ false → nat_eq (c - 2 ^ 17) (x - 2 ^ 17) ≡ nat_eq c x
        same there =
            let c_far = ltb-false c (2 ^ 17) there in
            let x_far = ltb-false x (2 ^ 17) away in
            either (nat_eq c x)
            (λ h. ap (λ k. nat_eq (k - 2 ^ 17) (x - 2 ^ 17)) (eqb-true c x h) ∙ nat_eq_equiv.refl (x - 2 ^ 17) ∙ sym h)
            (λ h. either (nat_eq (c - 2 ^ 17) (x - 2 ^ 17))
            (λ e.
            let is : c ≡ x = omega (arith, eqb-true (c - 2 ^ 17) (x - 2 ^ 17) e, c_far, x_far) in
            absurd (true≢false (sym (nat_eq_equiv.refl x) ∙ ap (λ k. nat_eq k x) (sym is) ∙ h)))
            (λ e. e ∙ sym h))

  module _ {T E : Type 0} (r : Result T E) where
    pub first_reported : ltb x (2 ^ 17) ≡ true → ((k : ℕ) → OnOk r (slice_index_or new k 0 ≡ (if nat_eq k x then end else slice_index_or numbers k 0)))
        → (c : ℕ) → OnOk r (place_end new others c ≡ (if nat_eq c x then end else place_end numbers others c))
    first_reported near put c = go r put where
      go : (s : Result T E) → ((k : ℕ) → OnOk s (slice_index_or new k 0 ≡ (if nat_eq k x then end else slice_index_or numbers k 0)))
          → OnOk s (place_end new others c ≡ (if nat_eq c x then end else place_end numbers others c))
      go (Ok t) h = first_put near h c
      go (Err e) h = tt

    pub second_reported : ltb x (2 ^ 17) ≡ false → ((k : ℕ) → OnOk r (slice_index_or new k 0 ≡ (if nat_eq k (x - 2 ^ 17) then end else slice_index_or others k 0)))
        → (c : ℕ) → OnOk r (place_end numbers new c ≡ (if nat_eq c x then end else place_end numbers others c))
    second_reported away put c = go r put where
      go : (s : Result T E) → ((k : ℕ) → OnOk s (slice_index_or new k 0 ≡ (if nat_eq k (x - 2 ^ 17) then end else slice_index_or others k 0)))
          → OnOk s (place_end numbers new c ≡ (if nat_eq c x then end else place_end numbers others c))
      go (Ok t) h = second_put away h c
      go (Err e) h = tt

-- Texts, each once.
use Rattle.std.proofs.Common.{◌≡◌, ◌∙◌, ℕ, ◌≤◌, Bool, true, false, not, ◌||◌, ◌&&◌, cond, List, [], ◌∷◌, ◌++◌, length, take, drop, filter, refl, sym, ap, if◌then◌else◌, arith, length-append, true≢false}
use Rattle.std.specs.Prelude.{nat_lt}
use Rattle.std.specs.Str.{bytes_eq}
use Rattle.std.proofs.lemmas.Bool.{ltb-false, le-ltb}
use Rattle.std.proofs.lemmas.Cmp.{nat_list_eq_equiv}
use Rattle.std.proofs.lemmas.Slice.Eq.{bytes_eq-Decides}
use Rattle.std.proofs.lemmas.List.Elements.{filter-append}
use Rattle.std.proofs.lemmas.List.Folds.{list_any-append}
use Rattle.std.proofs.lemmas.List.Sums.{sum_by-append}
use Rattle.std.proofs.lemmas.List.{append-nil, take-append-drop}
use Rattle.pool.specs.Texts.{firsts, is_among, is_once, with_text, byte_count, is_too_full}
use Rattle.arrays.specs.Prelude.{most_slots}

-- A test goes one way or the other.
pub either : {C : Type 0} (b : Bool) → (b ≡ true → C) → (b ≡ false → C) → C
either true t f = t refl
either false t f = f refl

both : (a b : Bool) → (a && b) ≡ true → (a ≡ true) × (b ≡ true)
both true b h = (refl, h)
both false b h = absurd (true≢false (sym h))

neither : (a b : Bool) → (a || b) ≡ false → (a ≡ false) × (b ≡ false)
neither false b h = (refl, h)
neither true b h = absurd (true≢false h)

not-true : (a : Bool) → not a ≡ true → a ≡ false
not-true false h = refl
not-true true h = absurd (true≢false (sym h))

-- The texts of the list but t.
abbrev but : List ℕ → List (List ℕ) → List (List ℕ)
but t us = filter (λ u. not (bytes_eq u t)) us

-- The texts of the list that aren't among ts.
abbrev pub beyond : List (List ℕ) → List (List ℕ) → List (List ℕ)
beyond ts us = filter (λ u. not (is_among ts u)) us

beyond-none : (us : List (List ℕ)) → beyond [] us ≡ us
beyond-none [] = refl
beyond-none (u ∷ us) = ap (λ l. u ∷ l) (beyond-none us)

kept : (a b : Bool) (u : List ℕ) (l m : List (List ℕ)) (t : List ℕ) → bytes_eq u t ≡ a → but t l ≡ m
    → but t (cond (not b) (u ∷ l) l) ≡ cond (not (a || b)) (u ∷ m) m
kept a true u l m t is h = elim a as (λ a. but t l ≡ cond (not (a || true)) (u ∷ m) m) [ true ↦ h | false ↦ h ]
kept true false u l m t is h = ap (λ b. cond (not b) (u ∷ but t l) (but t l)) is ∙ h
kept false false u l m t is h = ap (λ b. cond (not b) (u ∷ but t l) (but t l)) is ∙ ap (λ l. u ∷ l) h

but-beyond : (t : List ℕ) (ts us : List (List ℕ)) → but t (beyond ts us) ≡ beyond (t ∷ ts) us
but-beyond t ts [] = refl
but-beyond t ts (u ∷ us) = kept (bytes_eq u t) (is_among ts u) u (beyond ts us) (beyond (t ∷ ts) us) t refl (but-beyond t ts us)

pub firsts-append : (ts us : List (List ℕ)) → firsts (ts ++ us) ≡ firsts ts ++ beyond ts (firsts us)
firsts-append [] us = sym (beyond-none (firsts us))
firsts-append (t ∷ ts) us =
    ap (λ l. t ∷ l) (ap (but t) (firsts-append ts us)
    ∙ filter-append (λ u. not (bytes_eq u t)) (firsts ts) (beyond ts (firsts us))
    ∙ ap (λ l. but t (firsts ts) ++ l) (but-beyond t ts (firsts us)))

-- Another text is among the rest where it is among all.
is_among-but : (t u : List ℕ) (us : List (List ℕ)) → bytes_eq u t ≡ false → is_among (but t us) u ≡ is_among us u
is_among-but t u [] apart = refl
is_among-but t u (v ∷ us) apart =
    either (bytes_eq v t)
    (λ same.
    let is : bytes_eq u v ≡ false = ap (λ w. bytes_eq u w) ((bytes_eq-Decides v t).0 same) ∙ apart in
    ap (λ b. is_among (cond (not b) (v ∷ but t us) (but t us)) u) same ∙ is_among-but t u us apart ∙ sym (ap (λ b. b || is_among us u) is))
    (λ other.
    ap (λ b. is_among (cond (not b) (v ∷ but t us) (but t us)) u) other ∙ ap (λ b. bytes_eq u v || b) (is_among-but t u us apart))

pub is_among-firsts : (ts : List (List ℕ)) (u : List ℕ) → is_among (firsts ts) u ≡ is_among ts u
is_among-firsts [] u = refl
is_among-firsts (t ∷ ts) u =
    either (bytes_eq u t)
    (λ same. ap (λ b. b || is_among (but t (firsts ts)) u) same ∙ sym (ap (λ b. b || is_among ts u) same))
    (λ other. ap (λ b. bytes_eq u t || b) (is_among-but t u (firsts ts) other ∙ is_among-firsts ts u))

-- One more text at the end.
pub firsts-push : (ts : List (List ℕ)) (t : List ℕ) → firsts (ts ++ t ∷ []) ≡ with_text (firsts ts) t
firsts-push ts t =
    firsts-append ts (t ∷ []) ∙ either (is_among ts t)
    (λ here. ap (λ b. firsts ts ++ cond (not b) (t ∷ []) []) here ∙ append-nil (firsts ts)
    ∙ sym (ap (λ b. if b then firsts ts else firsts ts ++ t ∷ []) (is_among-firsts ts t ∙ here)))
    (λ new. ap (λ b. firsts ts ++ cond (not b) (t ∷ []) []) new
    ∙ sym (ap (λ b. if b then firsts ts else firsts ts ++ t ∷ []) (is_among-firsts ts t ∙ new)))

but-absent : (t : List ℕ) (us : List (List ℕ)) → is_among us t ≡ false → but t us ≡ us
but-absent t [] apart = refl
but-absent t (u ∷ us) apart =
    let p = neither (bytes_eq t u) (is_among us t) apart in
    ap (λ b. cond (not b) (u ∷ but t us) (but t us)) (nat_list_eq_equiv.symm u t ∙ p.0) ∙ ap (λ l. u ∷ l) (but-absent t us p.1)

-- Where no text comes twice, each is a first.
pub firsts-once : (ts : List (List ℕ)) → is_once ts ≡ true → firsts ts ≡ ts
firsts-once [] once = refl
firsts-once (t ∷ ts) once =
    let p = both (not (is_among ts t)) (is_once ts) once in
    ap (λ l. t ∷ l) (ap (but t) (firsts-once ts p.1) ∙ but-absent t ts (not-true (is_among ts t) p.0))

absent-but : (t : List ℕ) (us : List (List ℕ)) → is_among (but t us) t ≡ false
absent-but t [] = refl
absent-but t (u ∷ us) =
    either (bytes_eq u t)
    (λ same. ap (λ b. is_among (cond (not b) (u ∷ but t us) (but t us)) t) same ∙ absent-but t us)
    (λ other. ap (λ b. is_among (cond (not b) (u ∷ but t us) (but t us)) t) other
    ∙ ap (λ b. b || is_among (but t us) t) (nat_list_eq_equiv.symm t u ∙ other) ∙ absent-but t us)

once-but : (t : List ℕ) (us : List (List ℕ)) → is_once us ≡ true → is_once (but t us) ≡ true
once-but t [] once = refl
once-but t (u ∷ us) once =
    let p = both (not (is_among us u)) (is_once us) once in
    either (bytes_eq u t)
    (λ same. ap (λ b. is_once (cond (not b) (u ∷ but t us) (but t us))) same ∙ once-but t us p.1)
    (λ other. ap (λ b. is_once (cond (not b) (u ∷ but t us) (but t us))) other
    ∙ ap (λ b. not b && is_once (but t us)) (is_among-but t u us other ∙ not-true (is_among us u) p.0) ∙ once-but t us p.1)

-- Of the firsts none comes twice.
pub is_once-firsts : (ts : List (List ℕ)) → is_once (firsts ts) ≡ true
is_once-firsts [] = refl
is_once-firsts (t ∷ ts) =
    ap (λ b. not b && is_once (but t (firsts ts))) (absent-but t (firsts ts)) ∙ once-but t (firsts ts) (is_once-firsts ts)

pub is_once-push : (ts : List (List ℕ)) (t : List ℕ) → is_once ts ≡ true → is_among ts t ≡ false → is_once (ts ++ t ∷ []) ≡ true
is_once-push [] t once apart = refl
is_once-push (u ∷ ts) t once apart =
    let p = both (not (is_among ts u)) (is_once ts) once in
    let q = neither (bytes_eq t u) (is_among ts t) apart in
    let is : is_among (ts ++ t ∷ []) u ≡ false = list_any-append (bytes_eq u) ts (t ∷ []) ∙ ap (λ b. b || (bytes_eq u t || false)) (not-true (is_among ts u) p.0) ∙ ap (λ b. b || false) (nat_list_eq_equiv.symm u t ∙ q.0) in
    ap (λ b. not b && is_once (ts ++ t ∷ [])) is ∙ is_once-push ts t p.1 q.1

-- The first of texts that come once come once.
is_once-start : (ts us : List (List ℕ)) → is_once (ts ++ us) ≡ true → is_once ts ≡ true
is_once-start [] us once = refl
is_once-start (t ∷ ts) us once =
    let p = both (not (is_among (ts ++ us) t)) (is_once (ts ++ us)) once in
    let q = neither (is_among ts t) (is_among us t) (sym (list_any-append (bytes_eq t) ts us) ∙ not-true (is_among (ts ++ us) t) p.0) in
    ap (λ b. not b && is_once ts) q.0 ∙ is_once-start ts us p.1

pub is_once-take : (ts : List (List ℕ)) (n : ℕ) → is_once ts ≡ true → is_once (take n ts) ≡ true
is_once-take ts n once = is_once-start (take n ts) (drop n ts) (ap is_once (take-append-drop n ts) ∙ once)

-- Texts that are not too many, in numbers.
pub fits_from : (ts : List (List ℕ)) → is_too_full ts ≡ false → (length ts ≤ most_slots) × (byte_count ts ≤ most_slots)
fits_from ts fits =
    let p = neither (nat_lt most_slots (length ts)) (nat_lt most_slots (byte_count ts)) fits in
    (ltb-false most_slots (length ts) p.0, ltb-false most_slots (byte_count ts) p.1)

pub fits_to : (ts : List (List ℕ)) → length ts ≤ most_slots → byte_count ts ≤ most_slots → is_too_full ts ≡ false
fits_to ts few short =
    ap (λ b. b || nat_lt most_slots (byte_count ts)) (le-ltb most_slots (length ts) few) ∙ le-ltb most_slots (byte_count ts) short

-- The first of texts that fit fit.
is_too_full-start : (ts us : List (List ℕ)) → is_too_full (ts ++ us) ≡ false → is_too_full ts ≡ false
is_too_full-start ts us fits =
    let p = fits_from (ts ++ us) fits in
    fits_to ts (omega (arith, length-append ts us, p.0)) (omega (arith, sum_by-append length ts us, p.1))

-- More texts are too many where fewer are.
pub is_too_full-append : (ts us : List (List ℕ)) → is_too_full ts ≡ true → is_too_full (ts ++ us) ≡ true
is_too_full-append ts us full =
    either (is_too_full (ts ++ us)) (λ h. h) (λ fits. absurd (true≢false (sym full ∙ is_too_full-start ts us fits)))

pub is_too_full-take : (ts : List (List ℕ)) (n : ℕ) → is_too_full ts ≡ false → is_too_full (take n ts) ≡ false
is_too_full-take ts n fits = is_too_full-start (take n ts) (drop n ts) (ap is_too_full (take-append-drop n ts) ∙ fits)

or-true : (b : Bool) → (b || true) ≡ true
or-true true = refl
or-true false = refl

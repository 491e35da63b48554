-- Items as codes among texts, and back.
use Rattle.std.proofs.Common.{◌≡◌, ◌∙◌, ℕ, suc, ◌+◌, Bool, true, false, not, ◌||◌, ◌&&◌, cond, List, [], ◌∷◌, ◌++◌, map, filter, option_map, pos, refl, sym, ap, get_or, All, arith, true≢false}
use Rattle.std.specs.List.{position_or_len}
use Rattle.std.specs.Str.{bytes_eq}
use Rattle.std.proofs.lemmas.Cmp.{nat_list_eq_equiv}
use Rattle.std.proofs.lemmas.Slice.Eq.{bytes_eq-Decides}
use Rattle.std.proofs.lemmas.List.Folds.{list_any-append}
use Rattle.arrays.specs.Prelude.{IsItemOf, Item, Kind, boolean, int, is_recodable, item_of, list, looked_up, null, text}
use Rattle.arrays.specs.Kind as kind
use Rattle.pool.specs.Prelude.{code_item, firsts, is_among, is_once, texts_of}
use Rattle.pool.proofs.PlaceLemmas.{among_place}
use Rattle.pool.proofs.TextLemmas.{beyond, either, firsts-append, firsts-once, is_among-firsts}

or-right : (a b : Bool) → b ≡ true → (a || b) ≡ true
or-right true b h = refl
or-right false b h = h

or-left : (a b : Bool) → a ≡ true → (a || b) ≡ true
or-left true b h = refl
or-left false b h = absurd (true≢false (sym h))

-- ---- the first of texts

abbrev but : List ℕ → List (List ℕ) → List (List ℕ)
but t us = filter (λ u. not (bytes_eq u t)) us

keep-absent : (t u v : List ℕ) (us : List (List ℕ)) (b c : Bool) → bytes_eq u v ≡ c → is_among (but t us) u ≡ false → (c || is_among us u) ≡ false
    → is_among (cond (not b) (v ∷ but t us) (but t us)) u ≡ false
keep-absent t u v us b true is rest h = absurd (true≢false h)
keep-absent t u v us true false is rest h = rest
keep-absent t u v us false false is rest h = ap (λ c. c || is_among (but t us) u) is ∙ rest

rest-absent : (c b : Bool) → (c || b) ≡ false → b ≡ false
rest-absent true b h = absurd (true≢false h)
rest-absent false b h = h

-- a text that isn't there isn't there among fewer
absent-but : (t u : List ℕ) (us : List (List ℕ)) → is_among us u ≡ false → is_among (but t us) u ≡ false
absent-but t u [] absent = refl
absent-but t u (v ∷ us) absent =
    keep-absent t u v us (bytes_eq v t) (bytes_eq u v) refl (absent-but t u us (rest-absent (bytes_eq u v) (is_among us u) absent)) absent

gone-but : (t : List ℕ) (us : List (List ℕ)) → is_among (but t us) t ≡ false
gone-but t [] = refl
gone-but t (v ∷ us) =
    either (bytes_eq v t)
    (λ same. ap (λ b. is_among (cond (not b) (v ∷ but t us) (but t us)) t) same ∙ gone-but t us)
    (λ other.
    ap (λ b. is_among (cond (not b) (v ∷ but t us) (but t us)) t) other
    ∙ ap (λ c. c || is_among (but t us) t) (nat_list_eq_equiv.symm t v ∙ other)
    ∙ gone-but t us)

once-parts : (a b : Bool) → (not a && b) ≡ true → (a ≡ false) × (b ≡ true)
once-parts true b h = absurd (true≢false (sym h))
once-parts false b h = (refl, h)

keep-once : (t v : List ℕ) (us : List (List ℕ)) (b : Bool) → is_among us v ≡ false → is_once (but t us) ≡ true → is_once (cond (not b) (v ∷ but t us) (but t us)) ≡ true
keep-once t v us true absent once = once
keep-once t v us false absent once = ap (λ c. not c && is_once (but t us)) (absent-but t v us absent) ∙ once

once-but : (t : List ℕ) (us : List (List ℕ)) → is_once us ≡ true → is_once (but t us) ≡ true
once-but t [] once = refl
once-but t (v ∷ us) once =
    let parts = once-parts (is_among us v) (is_once us) once in
    keep-once t v us (bytes_eq v t) parts.0 (once-but t us parts.1)

is_once-firsts : (ts : List (List ℕ)) → is_once (firsts ts) ≡ true
is_once-firsts [] = refl
is_once-firsts (t ∷ ts) =
    ap (λ c. not c && is_once (but t (firsts ts))) (gone-but t (firsts ts)) ∙ once-but t (firsts ts) (is_once-firsts ts)

beyond-firsts : (ts us : List (List ℕ)) → beyond (firsts ts) us ≡ beyond ts us
beyond-firsts ts [] = refl
beyond-firsts ts (u ∷ us) =
    ap (λ b. cond (not b) (u ∷ beyond (firsts ts) us) (beyond (firsts ts) us)) (is_among-firsts ts u)
    ∙ ap (λ l. cond (not (is_among ts u)) (u ∷ l) l) (beyond-firsts ts us)

pub firsts-twice : (ts us : List (List ℕ)) → firsts (firsts ts ++ us) ≡ firsts (ts ++ us)
firsts-twice ts us =
    firsts-append (firsts ts) us ∙ ap (λ l. l ++ beyond (firsts ts) (firsts us)) (firsts-once (firsts ts) (is_once-firsts ts))
    ∙ ap (λ l. firsts ts ++ l) (beyond-firsts ts (firsts us)) ∙ sym (firsts-append ts us)

-- ---- back from the codes

-- the text at a text's place
text-back : (ts : List (List ℕ)) (t : List ℕ) → is_among ts t ≡ true → get_or (map text ts) (position_or_len (bytes_eq t) ts) null ≡ text t
text-back [] t among = absurd (true≢false (sym among))
text-back (u ∷ ts) t among =
    either (bytes_eq t u)
    (λ same.
    ap (λ b. get_or (map text (u ∷ ts)) (cond (not b) (1 + position_or_len (bytes_eq t) ts) 0) null) same
    ∙ ap text (sym ((bytes_eq-Decides t u).0 same)))
    (λ other.
    let next : 1 + position_or_len (bytes_eq t) ts ≡ suc (position_or_len (bytes_eq t) ts) = omega arith in
    ap (λ b. get_or (map text (u ∷ ts)) (cond (not b) (1 + position_or_len (bytes_eq t) ts) 0) null) other
    ∙ ap (λ n. get_or (map text (u ∷ ts)) n null) next
    ∙ text-back ts t (sym (ap (λ b. b || is_among ts t) other) ∙ among))

code-back : (ts : List (List ℕ)) (t : List ℕ) → is_among ts t ≡ true → looked_up (map text ts) (code_item ts (text t)) ≡ text t
code-back ts t among =
    ap (λ o. looked_up (map text ts) (item_of (option_map pos o))) (among_place (bytes_eq t) ts among) ∙ text-back ts t among

-- no number, truth value or list is a text
no_text : {C : Type 0} (k : Kind) (x : Item) → is_recodable k ≡ true → IsItemOf k x → ((t : List ℕ) → x ≡ text t → C) → (x ≡ null → C) → C
no_text k null texts of_kind f g = g refl
no_text k (text t) texts of_kind f g = f t refl
no_text (kind.int i) x texts of_kind f g = absurd (true≢false (sym texts))
no_text kind.boolean x texts of_kind f g = absurd (true≢false (sym texts))
no_text (kind.lists w k) x texts of_kind f g = absurd (true≢false (sym texts))
no_text (kind.texts w) (int z) texts of_kind f g = absurd of_kind
no_text (kind.texts w) (boolean b) texts of_kind f g = absurd of_kind
no_text (kind.texts w) (list l) texts of_kind f g = absurd of_kind
no_text kind.dict (int z) texts of_kind f g = absurd of_kind
no_text kind.dict (boolean b) texts of_kind f g = absurd of_kind
no_text kind.dict (list l) texts of_kind f g = absurd of_kind

abbrev pub AreAmong : List Item → List (List ℕ) → Type 0
AreAmong items ts = (t : List ℕ) → is_among (texts_of items) t ≡ true → is_among ts t ≡ true

fewer : (x : Item) (items : List Item) (ts : List (List ℕ)) (k : Kind) → is_recodable k ≡ true → IsItemOf k x → AreAmong (x ∷ items) ts → AreAmong items ts
fewer x items ts k texts of_kind there u h =
    there u
    (no_text k x texts of_kind
    (λ t is. ap (λ z. is_among (texts_of (z ∷ items)) u) is ∙ or-right (bytes_eq u t) (is_among (texts_of items) u) h)
    (λ is. ap (λ z. is_among (texts_of (z ∷ items)) u) is ∙ h))

item-back : (x : Item) (items : List Item) (ts : List (List ℕ)) (k : Kind) → is_recodable k ≡ true → IsItemOf k x → AreAmong (x ∷ items) ts → looked_up (map text ts) (code_item ts x) ≡ x
item-back x items ts k texts of_kind there =
    no_text k x texts of_kind
    (λ t is.
    let among = there t (ap (λ y. is_among (texts_of (y ∷ items)) t) is ∙ or-left (bytes_eq t t) (is_among (texts_of items) t) (nat_list_eq_equiv.refl t)) in
    ap (λ y. looked_up (map text ts) (code_item ts y)) is ∙ code-back ts t among ∙ sym is)
    (λ is. ap (λ y. looked_up (map text ts) (code_item ts y)) is ∙ sym is)

pub codes-back : (ts : List (List ℕ)) (k : Kind) (items : List Item) → is_recodable k ≡ true → All (IsItemOf k) items → AreAmong items ts
    → map (looked_up (map text ts)) (map (code_item ts) items) ≡ items
codes-back ts k [] texts typed there = refl
codes-back ts k (x ∷ items) texts typed there =
    let one = typed 0 x (omega arith) in
    ap (λ y. y ∷ map (looked_up (map text ts)) (map (code_item ts) items)) (item-back x items ts k texts one there)
    ∙ ap (λ l. x ∷ l) (codes-back ts k items texts (λ i d h. typed (suc i) d (omega (arith, h))) (fewer x items ts k texts one there))

-- the texts of a column are among those that the pool has with them
pub among-grown : (ts us : List (List ℕ)) (t : List ℕ) → is_among us t ≡ true → is_among (firsts (ts ++ us)) t ≡ true
among-grown ts us t among =
    is_among-firsts (ts ++ us) t ∙ list_any-append (bytes_eq t) ts us ∙ or-right (is_among ts t) (is_among us t) among

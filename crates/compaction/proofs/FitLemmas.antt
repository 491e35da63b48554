-- A front of what one batch holds fits in one batch too.
use Rattle.std.proofs.Common.{◌≡◌, ◌∙◌, ℕ, ◌+◌, ◌≤◌, ◌&&◌, ◌||◌, List, [], ◌∷◌, ◌++◌, length, Bool, true, false, not, ap, sym, refl, arith, length-append, true≢false}
use Rattle.std.specs.Prelude.{nat_lt}
use Rattle.std.specs.List.{enumerate_from, list_any}
use Rattle.std.proofs.lemmas.Bool.{and_from, and_parts, not-true, not_from_false, or_from, or_parts, false_from_ne_true}
use Rattle.std.proofs.lemmas.Bool.Decides.{nat_tests}
use Rattle.std.proofs.lemmas.Grind.{flat_map-append}
use Rattle.std.proofs.lemmas.List.Sums.{sum_by-append}
use Rattle.arrays.specs.Prelude.{FieldShape, Item, Kind, Narrow, Table, Wide, column, inner_items, is_past, is_too_big, items_in, kind_of_field, text_bytes, text_length}
use Rattle.arrays.specs.Kind as kind
use Rattle.arrays.proofs.BatchLemmas.{some-found, column-append}
use Rattle.compaction.specs.Neighbours.{is_big, is_one}

pub less-past : (m n : ℕ) → m ≤ n → is_past n ≡ false → is_past m ≡ false
less-past m n le few = grind (arith, nat_tests)

-- ---- one column

pub front-fits : (k : Kind) (xs ys : List Item) → is_too_big k (xs ++ ys) ≡ false → is_too_big k xs ≡ false
front-fits (kind.int t) xs ys fits = refl
front-fits kind.boolean xs ys fits = refl
front-fits kind.dict xs ys fits = refl
front-fits (kind.texts Wide) xs ys fits = refl
front-fits (kind.texts Narrow) xs ys fits = less-past (text_bytes xs) (text_bytes (xs ++ ys)) (omega (arith, sum_by-append text_length xs ys)) fits
front-fits (kind.lists w k) xs ys fits =
    let inner = flat_map-append items_in xs ys in
    let parts = or_parts (is_past (length (inner_items xs ++ inner_items ys))) (is_too_big k (inner_items xs ++ inner_items ys))
    (ap (λ (l : List Item). is_past (length l) || is_too_big k l) (sym inner) ∙ fits) in
    or_from (is_past (length (inner_items xs))) (is_too_big k (inner_items xs))
    (less-past (length (inner_items xs)) (length (inner_items xs ++ inner_items ys)) (omega (arith, length-append (inner_items xs) (inner_items ys))) parts.0)
    (front-fits k (inner_items xs) (inner_items ys) parts.1)

-- ---- all columns

pub none-of : {X : Type 0} (p q : X → Bool) → ((x : X) → q x ≡ false → p x ≡ false) → (xs : List X) → list_any q xs ≡ false → list_any p xs ≡ false
none-of p q less [] none = refl
none-of p q less (x ∷ xs) none =
    let parts = or_parts (q x) (list_any q xs) none in
    or_from (p x) (list_any p xs) (less x parts.0) (none-of p q less xs parts.1)

-- Whether the column under the field is too big.
abbrev pub is_big_at : Table → ℕ × FieldShape → Bool
is_big_at t e = is_too_big (kind_of_field e.1) (column t e.0)

pub big-any : (fields : List FieldShape) (t : Table) → is_big fields t ≡ list_any (is_big_at t) (enumerate_from 0 fields)
big-any fields t = some-found (is_big_at t) (enumerate_from 0 fields)

pub column-front : (t u : Table) (e : ℕ × FieldShape) → is_big_at (t ++ u) e ≡ false → is_big_at t e ≡ false
column-front t u e fits =
    front-fits (kind_of_field e.1) (column t e.0) (column u e.0) (ap (is_too_big (kind_of_field e.1)) (sym (column-append t u e.0)) ∙ fits)

big-front : (fields : List FieldShape) (t u : Table) → is_big fields (t ++ u) ≡ false → is_big fields t ≡ false
big-front fields t u fits =
    big-any fields t ∙ none-of (is_big_at t) (is_big_at (t ++ u)) (column-front t u) (enumerate_from 0 fields) (sym (big-any fields (t ++ u)) ∙ fits)

-- ---- one batch

pub one-front : (fields : List FieldShape) (m : ℕ) (t u : Table) → is_one fields m (t ++ u) ≡ true → is_one fields m t ≡ true
one-front fields m t u one =
    let all = and_parts (not (nat_lt m (length (t ++ u)))) (not (is_past (length (t ++ u))) && not (is_big fields (t ++ u))) one in
    let more = and_parts (not (is_past (length (t ++ u)))) (not (is_big fields (t ++ u))) all.1 in
    let le : length t ≤ length (t ++ u) = omega (arith, length-append t u) in
    and_from (not (nat_lt m (length t))) (not (is_past (length t)) && not (is_big fields t))
    (not_from_false (nat_lt m (length t)) (less (length t) (length (t ++ u)) le (not-true (nat_lt m (length (t ++ u))) all.0)))
    (and_from (not (is_past (length t))) (not (is_big fields t))
    (not_from_false (is_past (length t)) (less-past (length t) (length (t ++ u)) le (not-true (is_past (length (t ++ u))) more.0)))
    (not_from_false (is_big fields t) (big-front fields t u (not-true (is_big fields (t ++ u)) more.1))))
  where
    less : (a b : ℕ) → a ≤ b → nat_lt m b ≡ false → nat_lt m a ≡ false
    less a b le few = grind (arith, nat_tests)

-- more than what is not one batch is not one either
pub not-one-more : (fields : List FieldShape) (m : ℕ) (t u : Table) → is_one fields m t ≡ false → is_one fields m (t ++ u) ≡ false
not-one-more fields m t u less = false_from_ne_true (is_one fields m (t ++ u)) (λ one. true≢false (sym (one-front fields m t u one) ∙ less))

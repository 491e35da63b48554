-- Texts put into a set one by one.
use Rattle.std.proofs.Common.{◌≡◌, ◌∙◌, ℕ, List, [], ◌∷◌, ◌++◌, ◌+◌, ◌<◌, suc, length, map, drop, get_or, refl, sym, ap, append_assoc, append-nil, add-one}
use Rattle.std.proofs.Math.Seq.{drop-cons}
use Rattle.arrays.specs.Prelude.{Batch, FieldShape, Item, boolean, int, list, null, text}
use Rattle.pool.specs.Prelude.{firsts, texts_of, with_item}
use Rattle.pool.proofs.TextLemmas.{firsts-push}
use Rattle.json_base.specs.JsonTable.{Table, table_of, tables_of}
use Rattle.json_print.specs.Dictionaries.{column_at, column_items, dictionaries_from, with_items}

pub with_items-append : (texts : List (List ℕ)) (xs ys : List Item) → with_items texts (xs ++ ys) ≡ with_items (with_items texts xs) ys
with_items-append texts [] ys = refl
with_items-append texts (x ∷ xs) ys = with_items-append (with_item texts x) xs ys

with_items-firsts : (ts : List (List ℕ)) (xs : List Item) → with_items (firsts ts) xs ≡ firsts (ts ++ texts_of xs)
with_items-firsts ts [] = ap firsts (sym (append-nil ts))
with_items-firsts ts (null ∷ xs) = with_items-firsts ts xs
with_items-firsts ts (int z ∷ xs) = with_items-firsts ts xs
with_items-firsts ts (boolean b ∷ xs) = with_items-firsts ts xs
with_items-firsts ts (text t ∷ xs) =
    ap (λ us. with_items us xs) (sym (firsts-push ts t)) ∙ with_items-firsts (ts ++ t ∷ []) xs ∙ ap firsts (append_assoc ts (t ∷ []) (texts_of xs))
with_items-firsts ts (list l ∷ xs) = with_items-firsts ts xs

-- Into a set of none.
pub with_items_none : (xs : List Item) → with_items [] xs ≡ firsts (texts_of xs)
with_items_none xs = with_items-firsts [] xs

-- What is left to put in after the batch at i.
pub texts_step : {A : Type 0} (f : A → Batch) (place : ℕ) (xs : List A) (i : ℕ) (x : A) (old new all : List (List ℕ)) → i < length xs → x ≡ get_or xs i x
    → new ≡ with_items old (column_at place (table_of (f x))) → with_items old (column_items place (tables_of (map f (drop i xs)))) ≡ all
    → with_items new (column_items place (tables_of (map f (drop (i + 1) xs)))) ≡ all
texts_step f place xs i x old new all within is grown whole =
    let left : drop i xs ≡ x ∷ drop (suc i) xs = drop-cons xs i x within ∙ ap (λ y. y ∷ drop (suc i) xs) (sym is) in
    let here = column_at place (table_of (f x)) in
    let rest = column_items place (tables_of (map f (drop (suc i) xs))) in
    let first : column_items place (tables_of (map f (drop i xs))) ≡ here ++ rest = rw left refl in
    rw (add-one, grown, ← with_items-append old here rest, ← first) whole

-- There is a dictionary for each field.
pub length-dictionaries_from : (place : ℕ) (fields : List FieldShape) (tables : List Table) → length (dictionaries_from place fields tables) ≡ length fields
length-dictionaries_from place [] tables = refl
length-dictionaries_from place (f ∷ fields) tables = ap suc (length-dictionaries_from (suc place) fields tables)

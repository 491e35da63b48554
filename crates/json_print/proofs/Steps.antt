-- Loops that make something of each element of a list.
use Rattle.std.proofs.Common.{◌≡◌, ◌∙◌, ℕ, suc, ◌+◌, ◌<◌, List, [], ◌∷◌, ◌++◌, length, map, drop, get_or, sum_by, refl, sym, ap, subst, append_assoc, add-one, add-zero, add_assoc}
use Rattle.std.proofs.Math.Seq.{drop-cons}
use Rattle.std.proofs.lemmas.List.{get_or-map, length-map}
use Rattle.std.proofs.lemmas.List.Elements.{All-get_or}
use Rattle.std.proofs.lemmas.List.Sums.{sum_by-cons}
use Rattle.std.specs.List.{All, flat_map}
use Rattle.arrays.specs.Prelude.{Item, OffsetWidth}
use Rattle.json.specs.Tree.{items_tokens}
use Rattle.json_base.specs.Prelude.{Data, items_outline}
use Rattle.json_print.specs.Prelude.{each, item_length, offset_data, offsets_data, starts_tokens, tokens_of}

-- What is left after an element, if what is made of a list begins with what is made of its first element.
pub moved : {A B : Type 0} (before after : List A → List B) (xs : List A) (i : ℕ) (x : A) (made old new all : List B)
    → ((ys : List A) → before (x ∷ ys) ≡ made ++ after ys) → drop i xs ≡ x ∷ drop (suc i) xs → new ≡ old ++ made → old ++ before (drop i xs) ≡ all
    → new ++ after (drop (i + 1) xs) ≡ all
moved before after xs i x made old new all begins left grown whole =
    rw (add-one, grown, append_assoc old made (after (drop (suc i) xs)), ← begins (drop (suc i) xs), ← left) whole

-- The same at an element that was read.
pub step : {A B : Type 0} (before after : List A → List B) (xs : List A) (i : ℕ) (x : A) (made old new all : List B)
    → ((ys : List A) → before (x ∷ ys) ≡ made ++ after ys) → i < length xs → x ≡ get_or xs i x → new ≡ old ++ made → old ++ before (drop i xs) ≡ all
    → new ++ after (drop (i + 1) xs) ≡ all
step before after xs i x made old new all begins within is grown whole =
    moved before after xs i x made old new all begins (drop-cons xs i x within ∙ ap (λ y. y ∷ drop (suc i) xs) (sym is)) grown whole

-- The values of one list and then those of another.
pub each_append : (value : Item → Data) (xs ys : List Item) → items_tokens (items_outline (each value (xs ++ ys))) ≡ flat_map (λ x. tokens_of (value x)) xs ++ items_tokens (items_outline (each value ys))
each_append value [] ys = refl
each_append value (x ∷ xs) ys =
    ap (λ ts. tokens_of (value x) ++ ts) (each_append value xs ys) ∙ sym (append_assoc (tokens_of (value x)) (flat_map (λ y. tokens_of (value y)) xs) _)

-- What holds of each element, at one that is read.
pub All-read : {A : Type 0} (P : A → Type 0) (xs : List A) (i : ℕ) (x : A) → All P xs → i < length xs → x ≡ get_or xs i x → P x
All-read P xs i x all within is = subst P (sym is) (All-get_or P xs i x within all)

-- The offsets of one list and then those of another.
pub offsets_append : (w : OffsetWidth) (start : ℕ) (xs ys : List Item) → items_tokens (items_outline (offsets_data w start (xs ++ ys))) ≡ starts_tokens w start xs ++ items_tokens (items_outline (offsets_data w (start + sum_by item_length xs) ys))
offsets_append w start [] ys = ap (λ n. items_tokens (items_outline (offsets_data w n ys))) (sym (add-zero start))
offsets_append w start (x ∷ xs) ys =
    let rest = starts_tokens w (start + item_length x) xs in
    ap (λ ts. tokens_of (offset_data w start) ++ ts)
    (offsets_append w (start + item_length x) xs ys
    ∙ ap (λ n. rest ++ items_tokens (items_outline (offsets_data w n ys))) (add_assoc start (item_length x) (sum_by item_length xs) ∙ ap (λ n. start + n) (sym (sum_by-cons item_length x xs))))
    ∙ sym (append_assoc (tokens_of (offset_data w start)) rest _)

-- The same of what is made of each element.
pub All-mapped : {A B : Type 0} (P : B → Type 0) (f : A → B) (xs : List A) (i : ℕ) (x : A) → All P (map f xs) → i < length xs → x ≡ get_or xs i x → P (f x)
All-mapped P f xs i x all within is =
    subst P (get_or-map f xs i x (f x) within ∙ ap f (sym is)) (All-get_or P (map f xs) i (f x) (subst (λ n. i < n) (sym (length-map xs f)) within) all)

-- A column by whether all its items are of a type.
use Rattle.std.proofs.Common.{◌≡◌, ◌∙◌, ℕ, [], ◌∷◌, Bool, List, map, false, true, ap, refl, sym}
use Rattle.std.proofs.lemmas.Bool.{and_parts, false≢true}
use Rattle.std.proofs.lemmas.List.Folds.{list_all-map}
use Rattle.std.specs.List.{list_all}
use Rattle.std.specs.Prelude.{if◌then◌else◌}
use Rattle.arrays.specs.Prelude.{Item, Wide, shown}
use Rattle.arrays.specs.Kind as kind
use Rattle.arrays.specs.Item as item
use Rattle.answers.specs.Answers.{group_shape}
use Rattle.answers.specs.declared.groups.Group.{Group}
use Rattle.results.specs.Prelude.{decimal_text, is_of, item_at, kind_of_type, only_of, result_column}
use Rattle.results.specs.declared.result_type.ResultType.{ResultType}
use Rattle.results.specs.declared.result_type.ResultType.TheVariants.{Text}

-- Whether all items are of the type, by the groups.
pub all-of : (t : ResultType) (place : ℕ) (groups : List Group) (b : Bool) → b ≡ list_all (λ g. is_of t (item_at place (group_shape g))) groups
    → list_all (is_of t) (map (item_at place) (map group_shape groups)) ≡ b
all-of t place groups b is =
    list_all-map (is_of t) (item_at place) (map group_shape groups) ∙ list_all-map (λ g. is_of t (item_at place g)) group_shape groups ∙ sym is

only_of-all : (t : ResultType) (xs : List Item) → list_all (is_of t) xs ≡ true → map (only_of t) xs ≡ xs
only_of-all t [] all = refl
only_of-all t (x ∷ xs) all =
    let parts = and_parts (is_of t x) (list_all (is_of t) xs) all in
    ap (λ b. (if b then x else item.null) ∷ map (only_of t) xs) parts.0 ∙ ap (λ ys. x ∷ ys) (only_of-all t xs parts.1)

spelled-text : (x : Item) → is_of Text x ≡ true → decimal_text x ≡ x
spelled-text item.null is = refl
spelled-text (item.int z) is = absurd (false≢true is)
spelled-text (item.boolean b) is = absurd (false≢true is)
spelled-text (item.text s) is = refl
spelled-text (item.list xs) is = absurd (false≢true is)

spelled-all : (xs : List Item) → list_all (is_of Text) xs ≡ true → map decimal_text xs ≡ xs
spelled-all [] all = refl
spelled-all (x ∷ xs) all =
    let parts = and_parts (is_of Text x) (list_all (is_of Text) xs) all in
    ap (λ y. y ∷ map decimal_text xs) (spelled-text x parts.0) ∙ ap (λ ys. x ∷ ys) (spelled-all xs parts.1)

-- Where one isn't, all are spelled.
pub column_of_others : (t : ResultType) (xs : List Item) → list_all (is_of t) xs ≡ false → shown (kind.texts Wide) (map decimal_text xs) ≡ result_column t xs
column_of_others t xs other = sym (ap (λ b. if b then shown (kind_of_type t) xs else shown (kind.texts Wide) (map decimal_text xs)) other)

whole : (t : ResultType) (xs : List Item) → list_all (is_of t) xs ≡ true → shown (kind_of_type t) xs ≡ result_column t xs
whole t xs all = sym (ap (λ b. if b then shown (kind_of_type t) xs else shown (kind.texts Wide) (map decimal_text xs)) all)

-- Where all items are of the type, the column is that of those which are.
pub column_of_type : (t : ResultType) (xs : List Item) → list_all (is_of t) xs ≡ true → shown (kind_of_type t) (map (only_of t) xs) ≡ result_column t xs
column_of_type t xs all = ap (shown (kind_of_type t)) (only_of-all t xs all) ∙ whole t xs all

-- Texts are spelled as they are.
pub column_of_texts : (xs : List Item) → list_all (is_of Text) xs ≡ true → shown (kind.texts Wide) (map decimal_text xs) ≡ result_column Text xs
column_of_texts xs all = ap (shown (kind.texts Wide)) (spelled-all xs all) ∙ whole Text xs all

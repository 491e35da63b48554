-- Items that are read one by one.
use Rattle.std.proofs.Common.{◌≡◌, ℕ, zero, suc, List, [], ◌∷◌, length, Some, refl, ap}
use Rattle.std.specs.Prelude.{slice_get, ⊤}
use Rattle.json_base.specs.Prelude.{Data, Items, ReadsEach, get_item, item, items_len, no_items}
use Rattle.json_base.proofs.JsonItems.{moved}

-- As many items as values, each read as its value.
abbrev pub AreRead : {A : Type 0} (R : Data → A → Type 0) (ds : Items) (xs : List A) → Type 0
AreRead R no_items [] = ⊤
AreRead R no_items (x ∷ xs) = ⊥
AreRead R (item d ds) [] = ⊥
AreRead R (item d ds) (x ∷ xs) = R d x × AreRead R ds xs

many : {A : Type 0} (R : Data → A → Type 0) (ds : Items) (xs : List A) → AreRead R ds xs → length xs ≡ items_len ds
many R no_items [] h = refl
many R no_items (x ∷ xs) h = absurd h
many R (item d ds) [] h = absurd h
many R (item d ds) (x ∷ xs) h = ap suc (many R ds xs h.1)

one : {A : Type 0} (R : Data → A → Type 0) (ds : Items) (xs : List A) → AreRead R ds xs → (i : ℕ) (d : Data) (x : A) → get_item i ds ≡ Some d → slice_get xs i ≡ Some x → R d x
one R no_items xs h i d x at is = absurd cc
one R (item e ds) [] h i d x at is = absurd h
one R (item e ds) (y ∷ ys) h zero d x at is = moved R e d y x h.0 at is
one R (item e ds) (y ∷ ys) h (suc i) d x at is = one R ds ys h.1 i d x at is

pub each_read : {A : Type 0} (R : Data → A → Type 0) (ds : Items) (xs : List A) → AreRead R ds xs → ReadsEach R ds xs
each_read R ds xs h = record { len = many R ds xs h; each = one R ds xs h }

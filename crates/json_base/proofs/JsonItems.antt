-- The items of an array read one after another.
use Rattle.std.proofs.Common.{◌≡◌, ◌∙◌, ℕ, zero, suc, ◌+◌, ◌<◌, List, [], ◌∷◌, ◌++◌, length, get_or, Some, refl, sym, ap, subst, arith, length-append, below_more}
use Rattle.std.specs.List.{slice_get}
use Rattle.std.proofs.lemmas.Option.{slice_get_within}
use Rattle.serde_json.specs.Data.{Data, Items, no_items, item}
use Rattle.serde_json.specs.Find.{get_item}
use Rattle.serde_json.specs.View.{view, items_view}
use Rattle.serde_json.specs.declared.value.Value.{Value}
use Rattle.serde_json.proofs.Views.{get_item_within, items_len-items_view}
use Rattle.serde_json.specs.Events.{items_len}
use Rattle.json_base.specs.JsonMember.{ReadsFirst}

pub get_item_some : (ds : Items) (i : ℕ) → i < items_len ds → (d : Data) × (get_item i ds ≡ Some d)
get_item_some no_items i h = absurd (omega arith)
get_item_some (item d ds) zero h = (d, refl)
get_item_some (item d ds) (suc i) h = get_item_some ds i (omega arith)

pub slice_get-front : {A : Type 0} (xs ys : List A) (i : ℕ) → i < length xs → slice_get (xs ++ ys) i ≡ slice_get xs i
slice_get-front [] ys i h = absurd (omega arith)
slice_get-front (x ∷ xs) ys zero h = refl
slice_get-front (x ∷ xs) ys (suc i) h = slice_get-front xs ys i (omega arith)

pub slice_get-last : {A : Type 0} (xs : List A) (x : A) → slice_get (xs ++ x ∷ []) (length xs) ≡ Some x
slice_get-last [] x = refl
slice_get-last (y ∷ xs) x = slice_get-last xs x

pub get_item_at : (vs : List Value) (i : ℕ) (d : Value) → i < length vs → get_item i (items_view vs) ≡ Some (view (get_or vs i d))
get_item_at vs i d h = sym (get_item_within vs i d h)

pub moved : {A : Type 0} (R : Data → A → Type 0) (d e : Data) (x y : A) → R d x → Some d ≡ Some e → Some x ≡ Some y → R e y
moved R d e x y r p q =
    let same : d ≡ e = cc in
    let also : x ≡ y = cc in
    subst (λ a. R a y) same (subst (λ b. R d b) also r)

-- one more item is read
pub first_pushed : {A : Type 0} (R : Data → A → Type 0) (ds : Items) (n : ℕ) (xs : List A) (d : Data) (x : A) → ReadsFirst R ds n xs → get_item n ds ≡ Some d → R d x
    → ReadsFirst R ds (n + 1) (xs ++ x ∷ [])
first_pushed R ds n xs d x h at r = record {
  len = omega (arith, length-append xs (x ∷ []), h.len);
  each = λ i e y found got.
      below_more (λ k. (e : Data) (y : _) → get_item k ds ≡ Some e → slice_get (xs ++ x ∷ []) k ≡ Some y → R e y) n
      (λ k within e y found got. h.each k e y found (sym (slice_get-front xs (x ∷ []) k (omega (arith, h.len))) ∙ got))
      (λ e y found got. moved R d e x y r (sym at ∙ found) (sym (slice_get-last xs x) ∙ (ap (slice_get (xs ++ x ∷ [])) h.len ∙ got)))
      i (omega (arith, slice_get_within (xs ++ x ∷ []) i y got, length-append xs (x ∷ []), h.len)) e y found got;
}

-- the loop's step, and its end
pub each_pushed : {A : Type 0} (R : Data → A → Type 0) (vs : List Value) (n : ℕ) (xs : List A) (v : Value) (x : A) → ReadsFirst R (items_view vs) n xs
    → n < length vs → v ≡ get_or vs n v → R (view v) x → ReadsFirst R (items_view vs) (n + 1) (xs ++ x ∷ [])
each_pushed R vs n xs v x h within is r = first_pushed R (items_view vs) n xs (view v) x h (get_item_at vs n v within ∙ ap (λ w. Some (view w)) (sym is)) r

pub each_done : {A : Type 0} (R : Data → A → Type 0) (vs : List Value) (n : ℕ) (xs : List A) → ReadsFirst R (items_view vs) n xs → n ≡ length vs
    → ReadsFirst R (items_view vs) (items_len (items_view vs)) xs
each_done R vs n xs h e = subst (λ m. ReadsFirst R (items_view vs) m xs) (e ∙ sym (items_len-items_view vs)) h

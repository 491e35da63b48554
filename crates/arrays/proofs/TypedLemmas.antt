-- Items are of their column's kind.
use Rattle.std.proofs.Common.{◌≡◌, ℕ, zero, suc, ◌+◌, ◌<◌, List, [], ◌∷◌, length, Bool, true, false, Some, cond, get_or, All, sym, refl, subst, arith, map, zero-add}
use Rattle.std.proofs.lemmas.List.Elements.{All-drop, All-map, All-take}
use Rattle.std.proofs.lemmas.List.FromFn.{get_or-range_with_len, length-range_with_len}
use Rattle.std.specs.List.{range_with_len}
use Rattle.std.specs.Prelude.{slice_index_or}
use Rattle.arrays.specs.Prelude.{AreItemsOf, HasLists, IsItemOf, looked_up, valid_values}
use Rattle.types.specs.Kind as kind
use Rattle.types.specs.declared.offset_width.OffsetWidth.{OffsetWidth}
use Rattle.types.specs.Prelude.{Kind, item_kind, natural}
use Rattle.layout.specs.Prelude.{Item, Seen, boolean, int, list, list_of, null, of_slot, text, valid_at}

-- ---- slots

slot-typed : (k : Kind) (x : Item) (b : Bool) → (b ≡ true → IsItemOf k x) → IsItemOf k (cond b x null)
slot-typed k x true of = of refl
slot-typed k x false of = null-typed k
  where
    null-typed : (k : Kind) → IsItemOf k null
    null-typed k = tt

-- what lies under a null need not be of the kind
pub values-typed : (k : Kind) (value : ℕ → Item) (s : Seen) → s.items ≡ valid_values value s
    → ((j : ℕ) → j < length s.items → valid_at s j ≡ true → IsItemOf k (value j)) → All (IsItemOf k) s.items
values-typed k value s is of =
    subst (All (IsItemOf k)) (sym is)
    (All-map (IsItemOf k) (λ j. cond (valid_at s j) (value j) null) (range_with_len 0 (length s.items))
    (λ i d below. let within : i < length s.items = omega (arith, below, length-range_with_len 0 (length s.items)) in
    subst (λ j. IsItemOf k (cond (valid_at s j) (value j) null)) (sym (get_or-range_with_len 0 (length s.items) i d within))
    (slot-typed k (value (0 + i)) (valid_at s (0 + i)) (subst (λ j. valid_at s j ≡ true → IsItemOf k (value j)) (sym (zero-add i)) (of i within)))))

-- ---- lists

list_of-typed : (k : Kind) (xs : List Item) → All (IsItemOf k) xs → AreItemsOf k (list_of xs)
list_of-typed k [] all = tt
list_of-typed k (x ∷ xs) all = (all 0 x (omega arith), list_of-typed k xs (λ i d below. all (suc i) d (omega (arith, below))))

list-typed : (w : OffsetWidth) (k : Kind) (offsets : List ℕ) (items : List Item) (j : ℕ) → All (IsItemOf k) items → IsItemOf (kind.lists w k) (list (list_of (of_slot offsets items j)))
list-typed w k offsets items j all = list_of-typed k (of_slot offsets items j) (All-take (IsItemOf k) _ _ (All-drop (IsItemOf k) _ items all))

-- the lists of a column are of its kind where the items of its child are of theirs
pub lists-typed : (offsets : List ℕ) (child s : Seen) → HasLists offsets child s → All (IsItemOf child.kind) child.items → All (IsItemOf s.kind) s.items
lists-typed offsets child s has all = of_kind s.kind has.kind where
  of_kind : (k : Kind) → item_kind k ≡ Some child.kind → All (IsItemOf k) s.items
  of_kind (kind.int t) is = cc
  of_kind kind.boolean is = cc
  of_kind (kind.texts w) is = cc
  of_kind kind.dict is = cc
  of_kind (kind.lists w k) is =
      let same : child.kind ≡ k = cc in
      values-typed (kind.lists w k) (λ j. list (list_of (of_slot offsets child.items j))) s has.lists
      (λ j below valid. list-typed w k offsets child.items j (subst (λ (q : Kind). All (IsItemOf q) child.items) same all))

-- ---- texts with a dictionary

entry-typed : (x : Item) → IsItemOf kind.utf8 x → IsItemOf kind.dict x
entry-typed null of = tt
entry-typed (text t) of = of
entry-typed (int z) of = of
entry-typed (boolean b) of = of
entry-typed (list xs) of = of

index-typed : (k : Kind) (xs : List Item) (i : ℕ) → All (IsItemOf k) xs → IsItemOf k (slice_index_or xs i null)
index-typed k [] i all = tt
index-typed k (x ∷ xs) zero all = all 0 x (omega arith)
index-typed k (x ∷ xs) (suc i) all = index-typed k xs i (λ j d below. all (suc j) d (omega (arith, below)))

looked-typed : (entries : List Item) (code : Item) → All (IsItemOf kind.utf8) entries → IsItemOf kind.dict (looked_up entries code)
looked-typed entries null all = tt
looked-typed entries (int z) all = entry-typed (slice_index_or entries (natural z) null) (index-typed kind.utf8 entries (natural z) all)
looked-typed entries (boolean b) all = tt
looked-typed entries (text t) all = tt
looked-typed entries (list xs) all = tt

pub codes-typed : (entries codes items : List Item) → items ≡ map (looked_up entries) codes → All (IsItemOf kind.utf8) entries → All (IsItemOf kind.dict) items
codes-typed entries codes items is all =
    subst (All (IsItemOf kind.dict)) (sym is) (All-map (IsItemOf kind.dict) (looked_up entries) codes (λ i d below. looked-typed entries (get_or codes i d) all))

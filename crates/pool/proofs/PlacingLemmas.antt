-- What is known of the places of items.
use Rattle.std.proofs.Common.{◌≡◌, ◌∙◌, ℕ, ◌<◌, true, false, eqb, pos, List, [], ◌∷◌, ◌++◌, length, Option, Some, None, option_map, refl, sym, ap, subst, arith, if◌then◌else◌}
use Rattle.std.specs.Prelude.{slice_index_or, slice_set}
use Rattle.std.specs.Str.{bytes_eq}
use Rattle.std.proofs.lemmas.Bool.{eqb-true, eqb-false}
use Rattle.std.proofs.lemmas.Cmp.{nat_list_eq_equiv}
use Rattle.std.proofs.lemmas.List.{get_or-set_same, get_or-set_other}
use Rattle.std.proofs.lemmas.List.Folds.{list_any-append}
use Rattle.arrays.specs.Prelude.{Item, int, item_of, null, text}
use Rattle.pool.specs.Prelude.{AreKnown, IsKnown, IsPlaced, code_item, is_among, is_too_full, place_of, with_item, with_text}
use Rattle.pool.proofs.TextLemmas.{either, fits_from}
use Rattle.pool.proofs.PlaceLemmas.{among_found, among_place, position_found, position-append, with_text-new}

-- ---- one item

place_from_code : (o : Option ℕ) (p : ℕ) → item_of (option_map pos o) ≡ int (pos p) → o ≡ Some p
place_from_code (Some q) p is = cc
place_from_code None p is = cc

-- A place that is known is the same among more texts.
known-append : (pool more : List (List ℕ)) (x : Item) (p : ℕ) → IsKnown pool x (Some p) → IsKnown (pool ++ more) x (Some p)
known-append pool more (text t) p is =
    ap (λ o. item_of (option_map pos o)) (position-append (bytes_eq t) pool more p (place_from_code (place_of pool t) p is))
known-append pool more x p is = is

known-grown : (pool : List (List ℕ)) (y x : Item) (o : Option ℕ) → IsKnown pool x o → IsKnown (with_item pool y) x o
known-grown pool y x None is = tt
known-grown pool (text t) x (Some p) is =
    either (is_among pool t)
    (λ here. subst (λ l. IsKnown l x (Some p)) (sym (ap (λ b. if b then pool else pool ++ t ∷ []) here)) is)
    (λ new. subst (λ l. IsKnown l x (Some p)) (sym (with_text-new pool t new)) (known-append pool (t ∷ []) x p is))
known-grown pool y x (Some p) is = is

-- What is known needs no look into the pool.
pub placed_by_known : (pool : List (List ℕ)) (x : Item) (p : ℕ) → IsKnown pool x (Some p) → is_too_full pool ≡ false → IsPlaced pool pool x (Some p)
placed_by_known pool (text t) p is fits =
    let at = place_from_code (place_of pool t) p is in
    record {
      texts = sym (ap (λ b. if b then pool else pool ++ t ∷ []) (among_found (bytes_eq t) pool p at));
      code = sym is;
      small = omega (arith, (position_found (bytes_eq t) pool p at).1, (fits_from pool fits).0);
    }
placed_by_known pool x p is fits = cc

pub known_from_placed : (old new : List (List ℕ)) (x : Item) (o : Option ℕ) → IsPlaced old new x o → IsKnown new x o
known_from_placed old new x None is = tt
known_from_placed old new x (Some p) is = sym is.code

-- The text of an item that has been put in is there.
among-added : (pool : List (List ℕ)) (t : List ℕ) → is_among (with_text pool t) t ≡ true
among-added pool t =
    either (is_among pool t)
    (λ here. ap (λ l. is_among l t) (ap (λ b. if b then pool else pool ++ t ∷ []) here) ∙ here)
    (λ new. ap (λ l. is_among l t) (with_text-new pool t new) ∙ list_any-append (bytes_eq t) pool (t ∷ []) ∙ grind (arith, nat_list_eq_equiv.refl t, new))

-- Its code stays while more texts come.
pub code-append : (old new more : List (List ℕ)) (x : Item) → new ≡ with_item old x → code_item (new ++ more) x ≡ code_item new x
code-append old new more (text t) is =
    let at = among_place (bytes_eq t) new (ap (λ l. is_among l t) is ∙ among-added old t) in
    ap (λ o. item_of (option_map pos o)) (position-append (bytes_eq t) new more _ at ∙ sym at)
code-append old new more x is = refl

-- ---- all items

pub AreKnown-grown : (pool new : List (List ℕ)) (y : Item) (items : List Item) (known : List (Option ℕ)) → new ≡ with_item pool y
    → AreKnown pool items known → AreKnown new items known
AreKnown-grown pool new y items known is h =
    subst (λ l. AreKnown l items known) (sym is) (λ k. known-grown pool y (slice_index_or items k null) (slice_index_or known k None) (h k))

pub AreKnown-set : (pool : List (List ℕ)) (items : List Item) (known : List (Option ℕ)) (i : ℕ) (o : Option ℕ) → i < length known
    → IsKnown pool (slice_index_or items i null) o → AreKnown pool items known → AreKnown pool items (slice_set known i o)
AreKnown-set pool items known i o within is h = λ k.
    either (eqb k i)
    (λ same.
    let e : k ≡ i = eqb-true k i same in
    subst (λ n. IsKnown pool (slice_index_or items n null) (slice_index_or (slice_set known i o) n None)) (sym e)
    (subst (IsKnown pool (slice_index_or items i null)) (sym (get_or-set_same known i o None within)) is))
    (λ other.
    subst (IsKnown pool (slice_index_or items k null)) (sym (get_or-set_other known i k o None (eqb-false k i other))) (h k))

-- How the places of numbers are found one after the other.
use Rattle.std.proofs.Common.{◌≡◌, ◌≢◌, ◌∙◌, ℕ, ◌+◌, ℤ, Bool, true, false, cond, List, Some, unwrap_or, refl, sym, ap, subst, arith, below_more}
use Rattle.std.specs.List.{slice_get}
use Rattle.std.specs.BTreeMap.{BTreeMap, Updates, get}
use Rattle.std.specs.Ordering.{is_eq, int_cmp}
use Rattle.std.specs.declared.cmp.Ordering.TheVariants.{Equal}
use Rattle.std.proofs.lemmas.Bool.{false≢true}
use Rattle.std.specs.Cmp.{Equal-is, int_cmp_total, tied_itself}
use Rattle.std.proofs.lemmas.Map.Lookups.{exact_signed}
use Rattle.json_read.specs.PlaceParts.{IsNumberPlace, IsBefore, ArePlaces, next_place, place_at}
use Rattle.json_read.specs.declared.place.Place.{Place}
use Rattle.json_read.specs.declared.place.Place.TheVariants.{Nowhere, At, Again}

-- another number follows
place_kept : (ids : List ℤ) (id x : ℤ) (n : ℕ) (p : Place) → IsNumberPlace ids id n p × IsBefore n p → slice_get ids n ≡ Some x → x ≢ id → IsNumberPlace ids id (n + 1) p × IsBefore (n + 1) p
place_kept ids id x n Nowhere h at other = (below_more (λ j. slice_get ids j ≡ Some id → ⊥) n h.0 (λ found. other cc), tt)
place_kept ids id x n (At i) h at other =
    (record { here = h.0.here; only = below_more (λ j. slice_get ids j ≡ Some id → j ≡ i) n h.0.only (λ found. absurd (other cc)) }, omega (arith, h.1))
place_kept ids id x n (Again k) h at other = (h.0, omega (arith, h.1))

-- the number follows
place_met : (ids : List ℤ) (id : ℤ) (n : ℕ) (p : Place) → IsNumberPlace ids id n p × IsBefore n p → slice_get ids n ≡ Some id
    → IsNumberPlace ids id (n + 1) (next_place n p) × IsBefore (n + 1) (next_place n p)
place_met ids id n Nowhere h at =
    (record { here = at; only = below_more (λ j. slice_get ids j ≡ Some id → j ≡ n) n (λ j below found. absurd (h.0 j below found)) (λ found. refl) }, omega arith)
place_met ids id n (At i) h at = ((i, h.1, h.0, at), omega arith)
place_met ids id n (Again k) h at = (h.0, omega (arith, h.1))

place_of_next : (ids : List ℤ) (id q : ℤ) (n : ℕ) (p : Place) (b : Bool) (m m' : BTreeMap ℤ Place) → ArePlaces ids n m → slice_get ids n ≡ Some id → p ≡ next_place n (place_at m id)
    → is_eq (int_cmp id q) ≡ b → get int_cmp m' q ≡ cond b (Some p) (get int_cmp m q) → IsNumberPlace ids q (n + 1) (place_at m' q) × IsBefore (n + 1) (place_at m' q)
place_of_next ids id q n p true m m' h at next same is =
    let one : id ≡ q = exact_signed id q ((Equal-is (int_cmp id q)).0 same) in
    subst (λ p. IsNumberPlace ids q (n + 1) p × IsBefore (n + 1) p) (sym (ap (λ o. unwrap_or o Nowhere) is ∙ next))
    (subst (λ x. IsNumberPlace ids x (n + 1) (next_place n (place_at m id)) × IsBefore (n + 1) (next_place n (place_at m id))) one (place_met ids id n (place_at m id) (h id) at))
place_of_next ids id q n p false m m' h at next same is =
    let other : id ≢ q = λ e. false≢true (sym same ∙ ap is_eq (subst (λ x. int_cmp id x ≡ Equal) e (tied_itself int_cmp_total id))) in
    subst (λ p. IsNumberPlace ids q (n + 1) p × IsBefore (n + 1) p) (sym (ap (λ o. unwrap_or o Nowhere) is)) (place_kept ids q id n (place_at m q) (h q) at other)

pub places_added : (ids : List ℤ) (id : ℤ) (n : ℕ) (p : Place) (m m' : BTreeMap ℤ Place) → ArePlaces ids n m → slice_get ids n ≡ Some id → p ≡ next_place n (place_at m id)
    → Updates int_cmp m m' id (Some p) → ArePlaces ids (n + 1) m'
places_added ids id n p m m' h at next u = λ q. place_of_next ids id q n p (is_eq (int_cmp id q)) m m' h at next refl (u.0 q)

-- Columns one after the other, one more.
use Rattle.std.proofs.Common.{◌≡◌, ◌∙◌, ◌+◌, ◌-◌, ◌<◌, ◌≤◌, ◌++◌, ℕ, List, [], ◌∷◌, ap, arith, drop, inr, length, refl, subst, sym, take}
use Rattle.std.proofs.lemmas.List.{drop-drop, length-drop}
use Rattle.std.proofs.Math.Seq.{take-length}
use Rattle.arrays.specs.Prelude.{FieldShape, Seen}
use Rattle.flat.specs.Prelude.{Begins, IsColumn, Names, Stops, StopsArray, StopsColumn, StopsColumns, StopsFields, Takes, most_levels}
use Rattle.flat.specs.declared.fault.FlatFault.{FlatFault}
use Rattle.flat.specs.declared.node.Node.{Node}

-- what a slice from a place on has
pub cut_is : {A : Type 0} (nodes cut : List A) (at : ℕ) → cut ≡ take (length nodes - at) (drop at nodes) → cut ≡ drop at nodes
cut_is nodes cut at is = is ∙ ap (λ n. take n (drop at nodes)) (sym (length-drop at nodes)) ∙ take-length (drop at nodes)

-- a list of some length has a first element
pub first_is : {A : Type 0} (xs : List A) → 0 < length xs → (x : A) × (rest : List A) × (xs ≡ x ∷ rest)
first_is [] h = absurd (omega (arith, h))
first_is (x ∷ rest) h = (x, rest, refl)

-- one field more
pub names_more : (nodes : List Node) (fs : List FieldShape) (between rest : List Node) (f : FieldShape) → Names nodes fs between → Begins most_levels between f rest → Names nodes (fs ++ f ∷ []) rest
names_more nodes [] between rest f named begins = (rest, subst (λ (l : List Node). Begins most_levels l f rest) named begins, refl)
names_more nodes (g ∷ gs) between rest f named begins = (named.0, named.1, names_more named.0 gs between rest f named.2 begins)

-- the place behind one column more
pub place_more : {A : Type 0} (nodes cut : List A) (at taken : ℕ) → cut ≡ take (length nodes - at) (drop at nodes) → at ≤ length nodes → taken ≤ length cut
    → (at + taken ≤ length nodes) × (drop taken cut ≡ drop (at + taken) nodes)
place_more nodes cut at taken is before within =
    let whole = cut_is nodes cut at is in
    let long : length cut ≡ length nodes - at = ap length whole ∙ length-drop at nodes in
    (omega (arith, long, before, within), ap (drop taken) whole ∙ drop-drop taken at nodes)

pub names_step : (nodes cut : List Node) (fs gs : List FieldShape) (at taken : ℕ) (f : FieldShape) → cut ≡ take (length nodes - at) (drop at nodes) → at ≤ length nodes → Names nodes fs (drop at nodes)
    → Begins most_levels cut f (drop taken cut) → taken ≤ length cut → gs ≡ fs ++ f ∷ [] → record { within : at + taken ≤ length nodes; named : Names nodes gs (drop (at + taken) nodes) }
names_step nodes cut fs gs at taken f is before named begins within more =
    let place = place_more nodes cut at taken is before within in
    let here : Names nodes fs cut = subst (λ (l : List Node). Names nodes fs l) (sym (cut_is nodes cut at is)) named in record {
      within = place.0;
      named =
          subst (λ (hs : List FieldShape). Names nodes hs (drop (at + taken) nodes)) (sym more)
          (subst (λ (l : List Node). Names nodes (fs ++ f ∷ []) l) place.1 (names_more nodes fs cut (drop taken cut) f here begins));
    }

-- what is left begins with a node, and it stops there
pub stops_fields : (nodes cut : List Node) (fs : List FieldShape) (at column : ℕ) (e : FlatFault) → cut ≡ take (length nodes - at) (drop at nodes) → at < length nodes → Names nodes fs (drop at nodes)
    → column ≡ length fs → Stops column most_levels cut e → StopsFields nodes e
stops_fields nodes cut fs at column e is before named counted stops =
    let whole = cut_is nodes cut at is in
    let long : length cut ≡ length nodes - at = ap length whole ∙ length-drop at nodes in
    let some = first_is cut (omega (arith, long, before)) in record {
      fields = fs;
      node = some.0;
      behind = some.1;
      before = subst (λ (l : List Node). Names nodes fs l) (sym whole ∙ some.2) named;
      stops = subst (λ (k : ℕ). Stops k most_levels (some.0 ∷ some.1) e) counted (subst (λ (l : List Node). Stops column most_levels l e) some.2 stops);
    }

-- ---- with what they show

-- a field, and no array of its type
pub stops_array : (column taken : ℕ) (nodes behind : List Node) (n : Node) (f : FieldShape) (e : FlatFault) → nodes ≡ n ∷ behind → Begins most_levels nodes f (drop taken nodes) → StopsArray column (n ∷ behind) f e
    → StopsColumn column nodes e
stops_array column taken nodes behind n f e is begins stops = inr (f, drop taken nodes, begins, subst (λ (l : List Node). StopsArray column l f e) (sym is) stops)

pub takes_more : (nodes : List Node) (fs : List FieldShape) (ss : List Seen) (between rest : List Node) (f : FieldShape) (s : Seen) → Takes nodes fs ss between → Begins most_levels between f rest → IsColumn between f s
    → Takes nodes (fs ++ f ∷ []) (ss ++ s ∷ []) rest
takes_more nodes [] [] between rest f s taken begins shows =
    (rest, subst (λ (l : List Node). Begins most_levels l f rest) taken begins, subst (λ (l : List Node). IsColumn l f s) taken shows, refl)
takes_more nodes [] (x ∷ xs) between rest f s taken begins shows = absurd taken
takes_more nodes (g ∷ gs) [] between rest f s taken begins shows = absurd taken
takes_more nodes (g ∷ gs) (x ∷ xs) between rest f s taken begins shows = (taken.0, taken.1, taken.2, takes_more taken.0 gs xs between rest f s taken.3 begins shows)

pub takes_step : (nodes cut : List Node) (fs gs : List FieldShape) (ss ts : List Seen) (at taken : ℕ) (f : FieldShape) (s : Seen) → cut ≡ take (length nodes - at) (drop at nodes) → at ≤ length nodes
    → Takes nodes fs ss (drop at nodes) → Begins most_levels cut f (drop taken cut) → IsColumn cut f s → taken ≤ length cut → gs ≡ fs ++ f ∷ [] → ts ≡ ss ++ s ∷ []
    → record { within : at + taken ≤ length nodes; columns : Takes nodes gs ts (drop (at + taken) nodes) }
takes_step nodes cut fs gs ss ts at taken f s is before so_far begins shows within fields arrays =
    let place = place_more nodes cut at taken is before within in
    let here : Takes nodes fs ss cut = subst (λ (l : List Node). Takes nodes fs ss l) (sym (cut_is nodes cut at is)) so_far in record {
      within = place.0;
      columns =
          subst (λ (hs : List FieldShape). Takes nodes hs ts (drop (at + taken) nodes)) (sym fields)
          (subst (λ (us : List Seen). Takes nodes (fs ++ f ∷ []) us (drop (at + taken) nodes)) (sym arrays)
          (subst (λ (l : List Node). Takes nodes (fs ++ f ∷ []) (ss ++ s ∷ []) l) place.1 (takes_more nodes fs ss cut (drop taken cut) f s here begins shows)));
    }

pub stops_columns : (nodes cut : List Node) (fs : List FieldShape) (ss : List Seen) (at column : ℕ) (e : FlatFault) → cut ≡ take (length nodes - at) (drop at nodes) → at < length nodes
    → Takes nodes fs ss (drop at nodes) → column ≡ length fs → StopsColumn column cut e → StopsColumns nodes e
stops_columns nodes cut fs ss at column e is before so_far counted stops =
    let whole = cut_is nodes cut at is in
    let long : length cut ≡ length nodes - at = ap length whole ∙ length-drop at nodes in
    let some = first_is cut (omega (arith, long, before)) in record {
      fields = fs;
      columns = ss;
      node = some.0;
      behind = some.1;
      before = subst (λ (l : List Node). Takes nodes fs ss l) (sym whole ∙ some.2) so_far;
      stops = subst (λ (k : ℕ). StopsColumn k (some.0 ∷ some.1) e) counted (subst (λ (l : List Node). StopsColumn column l e) some.2 stops);
    }

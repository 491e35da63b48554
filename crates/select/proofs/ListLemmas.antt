-- Lists of which rows of the child are picked.
use Rattle.std.proofs.Common.{◌≡◌, ◌∙◌, ℕ, zero, suc, ◌+◌, ◌<◌, ◌≤◌, ◌||◌, inl, inr, List, [], ◌∷◌, ◌++◌, length, take, drop, map, Bool, true, false, cond, Option, None, Some, option_map, Result, Ok, Err, IfErr, IsErrAnd, ap, sym, refl, arith, subst, get_or, append-nil, zero-add, length-append}
use Rattle.std.specs.Prelude.{slice_get, All, unwrap_or}
use Rattle.std.specs.List.{range_with_len}
use Rattle.std.proofs.lemmas.List.{map-append, take_all, take_more, take-map, length-map, get_or-drop, length-drop}
use Rattle.std.proofs.lemmas.List.Concat.{length-flat_map}
use Rattle.std.proofs.lemmas.List.Elements.{All-append, All-from_get_or}
use Rattle.std.proofs.lemmas.List.FromFn.{get_or-map-range_with_len, length-map-range_with_len, map-range_with_len_more}
use Rattle.std.proofs.lemmas.List.Sums.{sum_by-append, sum_by-take-le}
use Rattle.std.proofs.lemmas.Grind.{flat_map-append}
use Rattle.std.proofs.lemmas.Option.{get_or_from_slice_get}
use Rattle.std.proofs.Math.Seq.{take-append_seam}
use Rattle.arrays.specs.Prelude.{HasLists, IsRange, Item, Items, Seen, boolean, cut, inner_items, int, is_past, item_of_range, items_in, items_of, list, list_length, list_of, null, of_slot, slice, text, total, valid_in}
use Rattle.arrays.proofs.ListLemmas.{items_of-list_of, list_of-items_of}
use Rattle.arrays.proofs.PartLemmas.{item_slot}
use Rattle.select.specs.declared.fault.SelectFault.{SelectFault}
use Rattle.select.specs.Prelude.{IsFull, IsList, IsPick, picked, picked_at, rows_of}
use Rattle.select.proofs.PickLemmas.{picked-more}
use Rattle.arrays.proofs.CutLemmas.{past-more}

-- ---- the items of a list

pub picked-run : (items : List Item) (start count : ℕ) → start + count ≤ length items → picked items (map (λ i. Some i) (range_with_len start count)) ≡ slice items start count
picked-run items start zero within = refl
picked-run items start (suc n) within =
    let here : n < length (drop start items) = omega (arith, within, length-drop start items) in
    let one : suc n ≡ n + 1 = omega arith in
    ap (λ m. picked items (map (λ i. Some i) (range_with_len start m))) one
    ∙ ap (picked items) (map-range_with_len_more (λ i. Some i) start n (start + n) refl)
    ∙ map-append (picked_at items) (map (λ i. Some i) (range_with_len start n)) (Some (start + n) ∷ [])
    ∙ ap (λ l. l ++ get_or items (start + n) null ∷ []) (picked-run items start n (omega (arith, within)))
    ∙ ap (λ x. slice items start n ++ x ∷ []) (sym (get_or-drop start items n null))
    ∙ sym (take_more (drop start items) n null here)
    ∙ ap (slice items start) (sym one)

-- the rows of a range are the items of its list
pub picked-rows : (items : List Item) (range : Option (ℕ × ℕ)) → IsRange (length items) range → picked items (rows_of range) ≡ items_in (item_of_range items range)
picked-rows items None within = refl
picked-rows items (Some r) within = picked-run items r.0 r.1 within ∙ sym (items_of-list_of (slice items r.0 r.1))

pub length-range : (items : List Item) (range : Option (ℕ × ℕ)) → IsRange (length items) range → option_map (λ r. r.1) range ≡ list_length (item_of_range items range)
length-range items None within = refl
length-range items (Some r) within =
    ap Some (sym (ap length (sym (picked-rows items (Some r) within)) ∙ length-map (map (λ i. Some i) (range_with_len r.0 r.1)) (picked_at items) ∙ length-map-range_with_len (λ i. Some i) r.0 r.1))

pub rows-within : (n : ℕ) (range : Option (ℕ × ℕ)) → IsRange n range → All (IsPick n) (rows_of range)
rows-within n None within = λ k d below. absurd (omega (arith, below))
rows-within n (Some r) within =
    λ k d below.
    let few : k < r.1 = omega (arith, below, length-map-range_with_len (λ (i : ℕ). Some i) r.0 r.1) in
    subst (IsPick n) (sym (get_or-map-range_with_len (λ i. Some i) r.0 r.1 k (r.0 + k) d few refl)) (lies few)
  where
    lies : {k : ℕ} → k < r.1 → r.0 + k < n
    lies few = omega (arith, few, within)

-- ---- lists one after the other

pub record Spreading (child items : List Item) (picks : List (Option ℕ)) (j : ℕ) (lengths rows : List (Option ℕ)) : Type 0 where
  pub lengths_are : lengths ≡ map list_length (picked items (take j picks))
  pub rows_are : picked child rows ≡ inner_items (picked items (take j picks))
  pub within : All (IsPick (length child)) rows

pub Spreading-more : (child items : List Item) (picks : List (Option ℕ)) (j : ℕ) (pick : Option ℕ) (range : Option (ℕ × ℕ)) (lengths more rows wider : List (Option ℕ))
    → Spreading child items picks j lengths rows → slice_get picks j ≡ Some pick → item_of_range child range ≡ picked_at items pick → IsRange (length child) range
    → more ≡ lengths ++ option_map (λ r. r.1) range ∷ [] → wider ≡ rows ++ rows_of range → Spreading child items picks (j + 1) more wider
Spreading-more child items picks j pick range lengths more rows wider is at item within more_is wider_is =
    let old = picked items (take j picks) in
    let x = picked_at items pick in
    let next = picked-more items picks j pick at in
    record {
      lengths_are =
          more_is
          ∙ ap (λ l. l ++ option_map (λ r. r.1) range ∷ []) is.lengths_are
          ∙ ap (λ y. map list_length old ++ y ∷ []) (length-range child range within ∙ ap list_length item)
          ∙ sym (map-append list_length old (x ∷ []))
          ∙ ap (map list_length) (sym next);
      rows_are =
          ap (picked child) wider_is
          ∙ map-append (picked_at child) rows (rows_of range)
          ∙ ap (λ l. l ++ picked child (rows_of range)) is.rows_are
          ∙ ap (λ l. inner_items old ++ l) (picked-rows child range within ∙ ap items_in item ∙ sym (append-nil (items_in x)))
          ∙ sym (flat_map-append items_in old (x ∷ []))
          ∙ ap inner_items (sym next);
      within = subst (All (IsPick (length child))) (sym wider_is) (All-append (IsPick (length child)) rows (rows_of range) is.within (rows-within (length child) range within));
    }

-- how long the lists are together is how many items they hold
length-item : (x : Item) → unwrap_or (list_length x) 0 ≡ length (items_in x)
length-item null = refl
length-item (int z) = refl
length-item (boolean b) = refl
length-item (text t) = refl
length-item (list xs) = refl

pub total-lengths : (items : List Item) → total (map list_length items) ≡ length (inner_items items)
total-lengths [] = refl
total-lengths (x ∷ xs) =
    sum_by-append (λ l. unwrap_or l 0) (list_length x ∷ []) (map list_length xs)
    ∙ ap (λ n. n + total (map list_length xs)) (zero-add (unwrap_or (list_length x) 0) ∙ length-item x)
    ∙ ap (λ n. length (items_in x) + n) (total-lengths xs)
    ∙ sym (length-append (items_in x) (inner_items xs))

inner-front : (items : List Item) (picks : List (Option ℕ)) (j : ℕ) → length (inner_items (picked items (take j picks))) ≤ length (inner_items (picked items picks))
inner-front items picks j =
    let all = picked items picks in
    omega (arith, sum_by-take-le (λ x. length (items_in x)) all j, length-flat_map items_in all, length-flat_map items_in (take j all), ap (λ l. length (inner_items l)) (sym (take-map (picked_at items) j picks)))

-- items that are too many with one list more are so among all
pub past-spread : (child items : List Item) (picks : List (Option ℕ)) (j : ℕ) (pick : Option ℕ) (range : Option (ℕ × ℕ)) (lengths rows : List (Option ℕ))
    → Spreading child items picks j lengths rows → slice_get picks j ≡ Some pick → item_of_range child range ≡ picked_at items pick → IsRange (length child) range
    → (is_past (length rows + length (rows_of range)) || is_past (total (lengths ++ option_map (λ r. r.1) range ∷ []))) ≡ true
    → is_past (length (inner_items (picked items picks))) ≡ true
past-spread child items picks j pick range lengths rows is at item within past =
    let next = Spreading-more child items picks j pick range lengths (lengths ++ option_map (λ r. r.1) range ∷ []) rows (rows ++ rows_of range) is at item within refl refl in
    let upto = picked items (take (j + 1) picks) in
    let m = length (inner_items upto) in
    let rows_m : length rows + length (rows_of range) ≡ m =
    sym (length-append rows (rows_of range)) ∙ sym (length-map (rows ++ rows_of range) (picked_at child)) ∙ ap length next.rows_are in
    let total_m : total (lengths ++ option_map (λ r. r.1) range ∷ []) ≡ m = ap total next.lengths_are ∙ total-lengths upto in
    past-more m (length (inner_items (picked items picks))) (inner-front items picks (j + 1)) (either_one (is_past m) (ap (λ a. is_past a || is_past m) (sym rows_m) ∙ ap (λ b. is_past (length rows + length (rows_of range)) || is_past b) (sym total_m) ∙ past))
  where
    either_one : (b : Bool) → (b || b) ≡ true → b ≡ true
    either_one true h = refl
    either_one false h = cc

-- a fault, reported of all
pub full_of_all : {T : Type 0} (r : Result T SelectFault) (e : SelectFault) (one all : Bool) → IsErrAnd r (λ x. x ≡ e) → IsFull one e → (one ≡ true → all ≡ true) → IfErr r (IsFull all)
full_of_all (Ok v) e one all same reported grows = tt
full_of_all (Err x) e one all same reported grows = elim reported [ inl h ↦ inl (same ∙ h.0, grows h.1) | inr h ↦ inr (same ∙ h) ]

-- ---- lists cut from their items

pub drop-front : {A : Type 0} (xs ys : List A) → drop (length xs) (xs ++ ys) ≡ ys
drop-front [] ys = refl
drop-front (x ∷ xs) ys = drop-front xs ys

tail : (x : Item) (xs : List Item) → All IsList (x ∷ xs) → All IsList xs
tail x xs all = λ k d below. all (suc k) d (omega (arith, below))

pub cut-again : (items : List Item) → All IsList items → cut (map list_length items) (inner_items items) ≡ items
cut-again [] all = refl
cut-again (null ∷ xs) all = ap (λ l. null ∷ l) (cut-again xs (tail null xs all))
cut-again (int z ∷ xs) all = absurd (all 0 null (omega arith))
cut-again (boolean b ∷ xs) all = absurd (all 0 null (omega arith))
cut-again (text t ∷ xs) all = absurd (all 0 null (omega arith))
cut-again (list ys ∷ xs) all =
    ap (λ l. list (list_of l) ∷ cut (map list_length xs) (drop (length (items_of ys)) (items_of ys ++ inner_items xs))) (take-append_seam (items_of ys) (inner_items xs))
    ∙ ap (λ l. list l ∷ cut (map list_length xs) (drop (length (items_of ys)) (items_of ys ++ inner_items xs))) (list_of-items_of ys)
    ∙ ap (λ l. list ys ∷ cut (map list_length xs) l) (drop-front (items_of ys) (inner_items xs))
    ∙ ap (λ l. list ys ∷ l) (cut-again xs (tail (list ys) xs all))

pub get_or-map-any : {A B : Type 0} (f : A → B) (xs : List A) (k : ℕ) (d : B) (e : A) → k < length xs → get_or (map f xs) k d ≡ f (get_or xs k e)
get_or-map-any f [] k d e below = absurd (omega (arith, below))
get_or-map-any f (x ∷ xs) zero d e below = refl
get_or-map-any f (x ∷ xs) (suc k) d e below = get_or-map-any f xs k d e (omega (arith, below))

valid-list : (b : Bool) (xs : Items) → IsList (cond b (list xs) null)
valid-list true xs = tt
valid-list false xs = tt

-- rows of lists are lists or null
pub lists-picked : (offsets : List ℕ) (child s : Seen) (picks : List (Option ℕ)) → HasLists offsets child s → All (IsPick (length s.items)) picks → All IsList (picked s.items picks)
lists-picked offsets child s picks has within k d below =
    let few : k < length picks = omega (arith, below, length-map picks (picked_at s.items)) in
    subst IsList (sym (at_place k d few)) (one (get_or picks k None) (within k None few))
  where
    at_place : (k : ℕ) (d : Item) → k < length picks → get_or (picked s.items picks) k d ≡ picked_at s.items (get_or picks k None)
    at_place k d few = get_or-map-any (picked_at s.items) picks k d None few

    one : (pick : Option ℕ) → IsPick (length s.items) pick → IsList (picked_at s.items pick)
    one None h = tt
    one (Some i) h = subst IsList (sym (get_or_from_slice_get s.items i (cond (valid_in s.validity i) (list (list_of (of_slot offsets child.items i))) null) null (item_slot _ s i has.lists h))) (valid-list (valid_in s.validity i) (list_of (of_slot offsets child.items i)))

-- the items of a column of lists are lists or null
pub all-lists : (offsets : List ℕ) (child s : Seen) → HasLists offsets child s → All IsList s.items
all-lists offsets child s has = All-from_get_or IsList s.items null (λ i h.
    subst IsList (sym (get_or_from_slice_get s.items i (cond (valid_in s.validity i) (list (list_of (of_slot offsets child.items i))) null) null (item_slot _ s i has.lists h)))
    (valid-list (valid_in s.validity i) (list_of (of_slot offsets child.items i))))

-- all rows, each picked once
pub picked-each : (items : List Item) (picks : List (Option ℕ)) (n : ℕ) → picks ≡ map (λ i. Some i) (range_with_len 0 n) → n ≡ length items → picked items picks ≡ items
picked-each items picks n is all =
    ap (picked items) is ∙ picked-run items 0 n (omega (arith, all)) ∙ take_all n items (omega (arith, all))

pub each-within : (items : List Item) (picks : List (Option ℕ)) (n : ℕ) → picks ≡ map (λ i. Some i) (range_with_len 0 n) → n ≡ length items → All (IsPick (length items)) picks
each-within items picks n is all = subst (All (IsPick (length items))) (sym is) (rows-within (length items) (Some (0, n)) (omega (arith, all)))

pub past-left : (rows : List (Option ℕ)) (range : Option (ℕ × ℕ)) (r : ℕ × ℕ) (other : Bool) → range ≡ Some r → is_past (length rows + r.1) ≡ true
    → (is_past (length rows + length (rows_of range)) || other) ≡ true
past-left rows range r other is past =
    ap (λ q. is_past (length rows + length (rows_of q)) || other) is
    ∙ ap (λ n. is_past (length rows + n) || other) (length-map-range_with_len (λ i. Some i) r.0 r.1)
    ∙ ap (λ b. b || other) past

-- What doesn't depend on whose tables come first.
use Rattle.std.proofs.Common.{◌≡◌, ◌∙◌, ℕ, zero, suc, ◌+◌, ◌<◌, ℤ, ◌+ℤ◌, List, [], ◌∷◌, ◌++◌, Bool, true, false, cond, Option, None, Some, option_map, length, map, filter, get_or, ap, sym, refl, append_assoc, arith, length-append}
use Rattle.std.specs.Prelude.{◌==◌, All, not}
use Rattle.std.specs.Cmp.{bool_cmp_total}
use Rattle.std.specs.Cmp.Lexicographic.{slice_cmp}
use Rattle.std.specs.List.{AllByRecursion, filter_map, flat_map, enumerate_from, range_with_len, reduce}
use Rattle.std.specs.Ordering.{bool_cmp, int_cmp, is_gt, nat_cmp, ordering_reverse}
use Rattle.std.specs.declared.cmp.Ordering.{Ordering}
use Rattle.std.specs.declared.cmp.Ordering.TheVariants.{Less, Equal, Greater}
use Rattle.std.proofs.lemmas.Bool.Decides.{nat_tests}
use Rattle.std.proofs.lemmas.Cmp.{int_cmp_total, nat_list_cmp_total}
use Rattle.std.proofs.lemmas.Int.{ints}
use Rattle.std.proofs.lemmas.List.{length-map, map-append}
use Rattle.std.proofs.lemmas.List.Folds.{flat_map-map}
use Rattle.std.proofs.lemmas.List.Elements.{All-filter, filter_passes}
use Rattle.std.proofs.lemmas.Map.Lookups.{exact_bytes, exact_signed}
use Rattle.arrays.specs.Prelude.{FieldShape, Item, Kind, Row, Table, boolean, column, int, kind_of_field, name_of, null, text}
use Rattle.arrays.specs.Kind as kind
use Rattle.table.proofs.JoinedStats.{are_bytes, are_numbers, are_truths, bytes_of_text, cond-item, greatest-append, least-append, nulls-append, reduce-items, sum-append, truth_of}
use Rattle.table.proofs.TallyLemmas.{no_greatest_of_lists, no_least_of_lists}
use Rattle.table.specs.Prelude.{History, better, both_sums, greater, greatest_of, is_bytes, is_number, is_truth, least_of, lesser, nulls_of, number_of, of, rows, sum_of, widened}
use Rattle.shared.proofs.BalanceLemmas.{rows_widened}
use Rattle.table.proofs.WidenedLemmas.{length-widened, of-widened, rows-widened, table-column}
use Rattle.arrowtab.specs.Prelude.{IsLoaded, added_by, fields_with, history_with}
use Rattle.reports.specs.Prelude.{FileBatch, column_line, column_lines, field_line, rows_line, stats_text, worker_line, worker_lines}

-- ---- of two values the first in an order, whichever is named first

flipped : {X : Type 0} (x y : X) (o p : Ordering) → o ≡ ordering_reverse p → (p ≡ Equal → x ≡ y) → cond (is_gt o) y x ≡ cond (is_gt p) x y
flipped x y o Less is same = ap (λ r. cond (is_gt r) y x) is
flipped x y o Equal is same = ap (λ r. cond (is_gt r) y x) is ∙ same refl
flipped x y o Greater is same = ap (λ r. cond (is_gt r) y x) is

better_flipped : {X : Type 0} (item : X → Item) (choose : Item → Item → Item) → ((x y : X) → choose (item x) (item y) ≡ choose (item y) (item x)) → (p q : Option X)
    → better choose (option_map item p) (option_map item q) ≡ better choose (option_map item q) (option_map item p)
better_flipped item choose flips None None = refl
better_flipped item choose flips None (Some y) = refl
better_flipped item choose flips (Some x) None = refl
better_flipped item choose flips (Some x) (Some y) = ap (λ z. Some z) (flips x y)

same_bool : (x y : Bool) → bool_cmp x y ≡ Equal → x ≡ y
same_bool false false is = refl
same_bool false true is = absurd (cc is)
same_bool true false is = absurd (cc is)
same_bool true true is = refl

-- what comes first of all in an order
module _ {X : Type 0} (R : X → X → Ordering) (reverses : (x y : X) → R x y ≡ ordering_reverse (R y x)) (same : (x y : X) → R x y ≡ Equal → x ≡ y) (item : X → Item) (p : Item → Bool) (values : List Item → List X)
    (are : (xs : List Item) → filter p xs ≡ map item (values xs)) (choose : Item → Item → Item) (chooses : (x y : X) → choose (item x) (item y) ≡ item (cond (is_gt (R x y)) y x)) where
  first_is : (xs : List Item) → reduce choose (filter p xs) ≡ option_map item (reduce (λ x y. cond (is_gt (R x y)) y x) (values xs))
  first_is xs = ap (reduce choose) (are xs) ∙ reduce-items item choose (λ x y. cond (is_gt (R x y)) y x) chooses (values xs)

  flips : (x y : X) → choose (item x) (item y) ≡ choose (item y) (item x)
  flips x y = chooses x y ∙ ap item (flipped x y (R x y) (R y x) (reverses x y) (λ e. sym (same y x e))) ∙ sym (chooses y x)

  first_flipped : (xs ys : List Item) → better choose (reduce choose (filter p xs)) (reduce choose (filter p ys)) ≡ better choose (reduce choose (filter p ys)) (reduce choose (filter p xs))
  first_flipped xs ys =
      let a = first_is xs in
      let b = first_is ys in
      (λ j. better choose (a j) (b j))
      ∙ better_flipped item choose flips (reduce (λ x y. cond (is_gt (R x y)) y x) (values xs)) (reduce (λ x y. cond (is_gt (R x y)) y x) (values ys))
      ∙ sym (λ j. better choose (b j) (a j))

-- ---- the statistics of two columns, whichever comes first

least_text : (xs ys : List Item) → better lesser (reduce lesser (filter is_bytes xs)) (reduce lesser (filter is_bytes ys)) ≡ better lesser (reduce lesser (filter is_bytes ys)) (reduce lesser (filter is_bytes xs))
least_text xs ys =
    first_flipped (slice_cmp nat_cmp) nat_list_cmp_total.antisymm exact_bytes text is_bytes (filter_map bytes_of_text) are_bytes lesser (λ x y. cond-item text (is_gt (slice_cmp nat_cmp x y)) x y) xs ys

greatest_text : (xs ys : List Item) → better greater (reduce greater (filter is_bytes xs)) (reduce greater (filter is_bytes ys)) ≡ better greater (reduce greater (filter is_bytes ys)) (reduce greater (filter is_bytes xs))
greatest_text xs ys =
    first_flipped (λ x y. slice_cmp nat_cmp y x) (λ x y. nat_list_cmp_total.antisymm y x) (λ x y e. sym (exact_bytes y x e)) text is_bytes (filter_map bytes_of_text) are_bytes greater
    (λ x y. cond-item text (is_gt (slice_cmp nat_cmp y x)) x y) xs ys

both_none : (choose : Item → Item → Item) (o p : Option Item) → o ≡ None → p ≡ None → better choose o p ≡ better choose p o
both_none choose o p none other = (λ j. better choose (none j) (other j)) ∙ sym (λ j. better choose (other j) (none j))

flip_least : (k : Kind) (xs ys : List Item) → better lesser (least_of k xs) (least_of k ys) ≡ better lesser (least_of k ys) (least_of k xs)
flip_least (kind.int t) xs ys = first_flipped int_cmp int_cmp_total.antisymm exact_signed int is_number (filter_map number_of) are_numbers lesser (λ x y. cond-item int (is_gt (int_cmp x y)) x y) xs ys
flip_least kind.boolean xs ys = first_flipped bool_cmp bool_cmp_total.antisymm same_bool boolean is_truth (filter_map truth_of) are_truths lesser (λ x y. cond-item boolean (is_gt (bool_cmp x y)) x y) xs ys
flip_least (kind.texts w) xs ys = least_text xs ys
flip_least (kind.lists w k) xs ys = both_none lesser _ _ (no_least_of_lists (kind.lists w k) xs refl) (no_least_of_lists (kind.lists w k) ys refl)
flip_least kind.dict xs ys = least_text xs ys

flip_greatest : (k : Kind) (xs ys : List Item) → better greater (greatest_of k xs) (greatest_of k ys) ≡ better greater (greatest_of k ys) (greatest_of k xs)
flip_greatest (kind.int t) xs ys =
    first_flipped (λ x y. int_cmp y x) (λ x y. int_cmp_total.antisymm y x) (λ x y e. sym (exact_signed y x e)) int is_number (filter_map number_of) are_numbers greater (λ x y. cond-item int (is_gt (int_cmp y x)) x y) xs ys
flip_greatest kind.boolean xs ys =
    first_flipped (λ x y. bool_cmp y x) (λ x y. bool_cmp_total.antisymm y x) (λ x y e. sym (same_bool y x e)) boolean is_truth (filter_map truth_of) are_truths greater (λ x y. cond-item boolean (is_gt (bool_cmp y x)) x y) xs ys
flip_greatest (kind.texts w) xs ys = greatest_text xs ys
flip_greatest (kind.lists w k) xs ys = both_none greater _ _ (no_greatest_of_lists (kind.lists w k) xs refl) (no_greatest_of_lists (kind.lists w k) ys refl)
flip_greatest kind.dict xs ys = greatest_text xs ys

flip_sums : (a b : Option ℤ) → both_sums a b ≡ both_sums b a
flip_sums None None = refl
flip_sums None (Some y) = refl
flip_sums (Some x) None = refl
flip_sums (Some x) (Some y) = let same : x +ℤ y ≡ y +ℤ x = omega (arith, ints) in ap (λ z. Some z) same

-- ---- the tables of a history, worker after worker

abbrev is_other : ℕ → ℕ × Table → Bool
is_other n e = not (e.0 == n)

others_below : (n : ℕ) (h : History) → All (λ e. e.0 < suc n) h → All (λ e. e.0 < n) (filter (is_other n) h)
others_below n h all = λ i e below.
    let less = All-filter (is_other n) (λ (x : ℕ × Table). x.0 < suc n) h all i e below in
    let other = filter_passes (is_other n) h i e below in
    grind (arith, nat_tests)

of_both : (n w : ℕ) (e : ℕ × Table) (b : Bool) (l h : History) → (e.0 == n) ≡ b → w < n → of l w ≡ of h w → of (cond (not b) (e ∷ l) l) w ≡ of (e ∷ h) w
of_both n w e true l h is below rest = let other : (e.0 == w) ≡ false = grind (arith, nat_tests) in rest ∙ sym (ap (λ b. cond b (e ∷ of h w) (of h w)) other)
of_both n w e false l h is below rest = ap (λ (m : History). cond (e.0 == w) (e ∷ m) m) rest

others_of : (n w : ℕ) (h : History) → w < n → of (filter (is_other n) h) w ≡ of h w
others_of n w [] below = refl
others_of n w (e ∷ h) below = of_both n w e (e.0 == n) (filter (is_other n) h) h refl below (others_of n w h below)

-- what is joined of two tables whichever comes first is the same for histories with the same rows of each worker
module _ {X : Type 0} (f : Table → X) (join : X → X → X) (joins : (s t : Table) → f (s ++ t) ≡ join (f s) (f t)) (flips : (s t : Table) → join (f s) (f t) ≡ join (f t) (f s)) where
  behind : (s t u : Table) → f t ≡ f u → f (s ++ t) ≡ f (s ++ u)
  behind s t u same = joins s t ∙ ap (join (f s)) same ∙ sym (joins s u)

  swapped : (s t u : Table) → f ((s ++ t) ++ u) ≡ f ((t ++ s) ++ u)
  swapped s t u = joins (s ++ t) u ∙ ap (λ x. join x (f u)) (joins s t ∙ flips s t ∙ sym (joins t s)) ∙ sym (joins (t ++ s) u)

  sorted : (e : ℕ × Table) (b : Bool) (own others : History) → f (e.1 ++ (rows own ++ rows others)) ≡ f (rows (cond b (e ∷ own) own) ++ rows (cond (not b) (e ∷ others) others))
  sorted e true own others = ap f (sym (append_assoc e.1 (rows own) (rows others)))
  sorted e false own others = ap f (sym (append_assoc e.1 (rows own) (rows others))) ∙ swapped e.1 (rows own) (rows others) ∙ ap f (append_assoc (rows own) e.1 (rows others))

  parted : (n : ℕ) (h : History) → f (rows h) ≡ f (rows (of h n) ++ rows (filter (is_other n) h))
  parted n [] = refl
  parted n (e ∷ h) = behind e.1 (rows h) (rows (of h n) ++ rows (filter (is_other n) h)) (parted n h) ∙ sorted e (e.0 == n) (of h n) (filter (is_other n) h)

  settled : (n : ℕ) (h k : History) → All (λ e. e.0 < n) h → All (λ e. e.0 < n) k → ((w : ℕ) → w < n → rows (of h w) ≡ rows (of k w)) → f (rows h) ≡ f (rows k)
  settled zero [] [] all every same = refl
  settled zero [] (e ∷ k) all every same = let none = every 0 e (omega arith) in absurd (omega (arith, none))
  settled zero (e ∷ h) k all every same = let none = all 0 e (omega arith) in absurd (omega (arith, none))
  settled (suc n) h k all every same =
      let rest = settled n (filter (is_other n) h) (filter (is_other n) k) (others_below n h all) (others_below n k every)
      (λ w below. ap rows (others_of n w h below) ∙ same w (omega (arith, below)) ∙ ap rows (sym (others_of n w k below))) in
      parted n h
      ∙ ap (λ t. f (t ++ rows (filter (is_other n) h))) (same n (omega arith))
      ∙ behind (rows (of k n)) (rows (filter (is_other n) h)) (rows (filter (is_other n) k)) rest
      ∙ sym (parted n k)

-- ---- the text

numbers_below : {P : ℕ → Type 0} (from count : ℕ) → ((w : ℕ) → w < from + count → P w) → AllByRecursion P (range_with_len from count)
numbers_below from zero all = tt
numbers_below from (suc count) all = (all from (omega arith), numbers_below (from + 1) count (λ w below. all w (omega (arith, below))))

mapped_same : {X A : Type 0} (f g : X → List A) (xs : List X) → AllByRecursion (λ x. f x ≡ g x) xs → flat_map f xs ≡ flat_map g xs
mapped_same f g [] all = refl
mapped_same f g (x ∷ xs) all = ap (λ l. l ++ flat_map f xs) all.0 ∙ ap (λ l. g x ++ l) (mapped_same f g xs all.1)

-- histories that are the same to each line have one text
shown_same : (workers : ℕ) (schema : List FieldShape) (h k : History) → length (rows h) ≡ length (rows k)
    → ((w : ℕ) → w < workers → (length (of h w) ≡ length (of k w)) × (length (rows (of h w)) ≡ length (rows (of k w))))
    → ((f : FieldShape) (c : ℕ) → field_line f (column (rows h) c) ≡ field_line f (column (rows k) c)) → stats_text workers schema h ≡ stats_text workers schema k
shown_same workers schema h k count each line =
    let lines : worker_lines workers h ≡ worker_lines workers k =
    mapped_same (λ w. worker_line w (length (of h w)) (length (rows (of h w)))) (λ w. worker_line w (length (of k w)) (length (rows (of k w)))) (range_with_len 0 workers)
    (numbers_below 0 workers (λ w less. let is = each w (omega (arith, less)) in λ j. worker_line w (is.0 j) (is.1 j))) in
    let columns : column_lines schema (rows h) ≡ column_lines schema (rows k) = ap (λ (shown : ℕ × FieldShape → List ℕ). flat_map shown (enumerate_from 0 schema)) (λ j. λ p. line p.1 p.0 j) in
    λ j. rows_line (count j) ++ lines j ++ columns j

module _ (workers : ℕ) (files : List (List FileBatch)) (fields : List FieldShape) (h k : History) (one : IsLoaded workers files fields h) (other : IsLoaded workers files fields k) where
  same_added : (w : ℕ) → w < workers → added_by h w ≡ added_by k w
  same_added w below = one.each w below ∙ sym (other.each w below)

  same_rows : (w : ℕ) → w < workers → rows (of h w) ≡ rows (of k w)
  same_rows w below =
      let all : (g : History) → rows (of g w) ≡ flat_map (λ t. t) (added_by g w) = λ g. sym (flat_map-map (λ (t : Table). t) (λ (e : ℕ × Table). e.1) (of g w)) in
      all h ∙ ap (flat_map (λ t. t)) (same_added w below) ∙ sym (all k)

  same_calls : (w : ℕ) → w < workers → length (of h w) ≡ length (of k w)
  same_calls w below = sym (length-map (of h w) (λ (e : ℕ × Table). e.1)) ∙ ap (λ (l : List Table). length l) (same_added w below) ∙ length-map (of k w) (λ (e : ℕ × Table). e.1)

  same_of : {X : Type 0} (f : Table → X) (join : X → X → X) → ((s t : Table) → f (s ++ t) ≡ join (f s) (f t)) → ((s t : Table) → join (f s) (f t) ≡ join (f t) (f s)) → f (rows h) ≡ f (rows k)
  same_of f join joins flips =
      settled f join joins flips workers h k one.known other.known same_rows

  -- the same of the items of a column
  same_stat : {X : Type 0} (c : ℕ) (g : List Item → X) (join : X → X → X) → ((xs ys : List Item) → g (xs ++ ys) ≡ join (g xs) (g ys)) → ((xs ys : List Item) → join (g xs) (g ys) ≡ join (g ys) (g xs))
      → g (column (rows h) c) ≡ g (column (rows k) c)
  same_stat c g join joins flips =
      same_of (λ t. g (column t c)) join
      (λ s t. ap g (map-append (λ (row : Row). get_or row c null) s t) ∙ joins (column s c) (column t c))
      (λ s t. flips (column s c) (column t c))

  same_line : (f : FieldShape) (c : ℕ) → field_line f (column (rows h) c) ≡ field_line f (column (rows k) c)
  same_line f c =
      let kd = kind_of_field f in
      let name = name_of f in
      let count : length (column (rows h) c) ≡ length (column (rows k) c) = same_stat c (λ xs. length xs) (λ m n. m + n) (λ xs ys. length-append xs ys) (λ xs ys. omega arith) in
      let nulls : nulls_of (column (rows h) c) ≡ nulls_of (column (rows k) c) = same_stat c nulls_of (λ m n. m + n) nulls-append (λ xs ys. omega arith) in
      let sum : sum_of kd (column (rows h) c) ≡ sum_of kd (column (rows k) c) = same_stat c (sum_of kd) both_sums (sum-append kd) (λ xs ys. flip_sums (sum_of kd xs) (sum_of kd ys)) in
      let least : least_of kd (column (rows h) c) ≡ least_of kd (column (rows k) c) = same_stat c (least_of kd) (better lesser) (least-append kd) (flip_least kd) in
      let greatest : greatest_of kd (column (rows h) c) ≡ greatest_of kd (column (rows k) c) = same_stat c (greatest_of kd) (better greater) (greatest-append kd) (flip_greatest kd) in
      λ j. column_line name kd (count j) (nulls j) (sum j) (least j) (greatest j)

  same_shown : (schema : List FieldShape) → stats_text workers schema h ≡ stats_text workers schema k
  same_shown schema =
      let count : length (rows h) ≡ length (rows k) = same_of (λ t. length t) (λ m n. m + n) (λ s t. length-append s t) (λ s t. omega arith) in
      shown_same workers schema h k count (λ w below. (same_calls w below, ap (λ (t : Table). length t) (same_rows w below))) same_line

-- nulls behind the rows don't show in it
widened_shown : (n workers : ℕ) (schema : List FieldShape) (h : History) → stats_text workers schema (widened n h) ≡ stats_text workers schema h
widened_shown n workers schema h =
    shown_same workers schema (widened n h) h (rows_widened n h)
    (λ w below. (
      ap (λ (l : History). length l) (of-widened n h w) ∙ length-widened n (of h w),
      ap (λ (l : History). length (rows l)) (of-widened n h w) ∙ rows_widened n (of h w),
    ))
    (λ f c. ap (field_line f) (ap (λ (t : Table). column t c) (rows-widened n h) ∙ table-column n (rows h) c))

pub same_with : (added : Option FieldShape) (workers : ℕ) (files : List (List FileBatch)) (fields : List FieldShape) (h k : History) → IsLoaded workers files fields h → IsLoaded workers files fields k
    → stats_text workers (fields_with added fields) (history_with added fields h) ≡ stats_text workers (fields_with added fields) (history_with added fields k)
same_with None workers files fields h k one other = same_shown workers files fields h k one other fields
same_with (Some f) workers files fields h k one other =
    let n = length fields + 1 in
    let schema = fields_with (Some f) fields in
    widened_shown n workers schema h ∙ same_shown workers files fields h k one other schema ∙ sym (widened_shown n workers schema k)

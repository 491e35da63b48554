-- Lists of files, by whoever takes them; beginnings of lists; and items that stand in order.
use Rattle.std.proofs.Common.{◌≡◌, Some, ◌≢◌, ◌∙◌, ℕ, suc, ◌+◌, ◌%◌, ◌<◌, ◌≤◌, List, [], ◌∷◌, ◌++◌, length, map, take, drop, get_or, Bool, true, false, cond, inl, inr, ap, sym, refl, subst, append_assoc, arith, add-zero}
use Rattle.std.specs.Prelude.{◌==◌, All, slice_get}
use Rattle.std.specs.List.{AllByRecursion, enumerate_from, flat_map}
use Rattle.std.proofs.lemmas.Bool.Decides.{nat_tests}
use Rattle.std.proofs.lemmas.List.{append-nil, drop_more, length-take-le, map-append, take-append-drop, take_at, take_more}
use Rattle.std.proofs.lemmas.List.Elements.{All-same, All-take}
use Rattle.std.proofs.lemmas.Option.{get_or_from_slice_get, slice_get_within}
use mathlib.Core.List.{IsPrefix}
use Rattle.loads.specs.Plan.{planned}
use Rattle.shared.proofs.PrefixLemmas.{prefix_whole}
use Rattle.shared.specs.Parts.{InOrder}
pub use Rattle.std.proofs.lemmas.List.Elements.{All-from_recursion as all_from, recursion_from_All as by_recursion}

pub same_test : (a b : ℕ) → a ≡ b → (a == b) ≡ true
same_test a b same = grind (arith, nat_tests)

-- ---- beginnings

pub all_begun : {A : Type 0} (P : A → Type 0) (xs ys : List A) → IsPrefix xs ys → All P ys → All P xs
all_begun P xs ys begun all = All-same P xs (take (length xs) ys) (sym (take_at xs begun.0 (length xs) refl) ∙ ap (take (length xs)) begun.1) (All-take P (length xs) ys all)

pub map_begun : {A B : Type 0} (f : A → B) (xs ys : List A) → IsPrefix xs ys → IsPrefix (map f xs) (map f ys)
map_begun f xs ys begun = (map f begun.0, sym (map-append f xs begun.0) ∙ ap (map f) begun.1)

-- a beginning that is no shorter is the whole
pub whole_begun : {A : Type 0} (xs ys rest : List A) → xs ++ rest ≡ ys → length ys ≤ length xs → xs ≡ ys
whole_begun xs ys rest is long = prefix_whole xs ys (rest, is) long

order_length : {A : Type 0} (xs ys : List A) → InOrder xs ys → length xs ≤ length ys
order_length [] ys o = omega arith
order_length (x ∷ xs) [] o = absurd o
order_length (x ∷ xs) (y ∷ ys) (inl p) = omega (arith, order_length xs ys p.1)
order_length (x ∷ xs) (y ∷ ys) (inr p) = omega (arith, order_length (x ∷ xs) ys p)

-- a beginning in which all items stand in order is the whole
pub order_begun : {A : Type 0} (all front : List A) → InOrder all front → IsPrefix front all → front ≡ all
order_begun all front ordered begun = prefix_whole front all begun (order_length all front ordered)

-- the next item of a list behind those before it
pub take_next : {A : Type 0} (xs : List A) (n : ℕ) (x : A) → slice_get xs n ≡ Some x → take (n + 1) xs ≡ take n xs ++ x ∷ []
take_next xs n x at = take_more xs n x (slice_get_within xs n x at) ∙ ap (λ y. take n xs ++ y ∷ []) (get_or_from_slice_get xs n x x at)

-- ---- the plan

pub all_split : {A : Type 0} (P : A → Type 0) (xs ys : List A) → AllByRecursion P (xs ++ ys) → AllByRecursion P xs × AllByRecursion P ys
all_split P [] ys all = (tt, all)
all_split P (x ∷ xs) ys all = let rest = all_split P xs ys all.1 in ((all.0, rest.0), rest.1)

module _ {B : Type 0} (workers : ℕ) where
  -- the batches of a file, where it is taken at a place
  abbrev taken : ℕ → ℕ → List B → List B
  taken place n f = cond ((n % workers) == place) f []

  own : (place n : ℕ) (f : List B) → n % workers ≡ place → taken place n f ≡ f
  own place n f is = grind (arith, nat_tests)

  -- the plan of files that are numbered from n on
  abbrev planned_from : ℕ → ℕ → List (List B) → List B
  planned_from place n files = flat_map (λ e. taken place e.0 e.1) (enumerate_from n files)

  planned-append : (place n : ℕ) (xs ys : List (List B)) → planned_from place n (xs ++ ys) ≡ planned_from place n xs ++ planned_from place (n + length xs) ys
  planned-append place n [] ys = ap (λ (m : ℕ). planned_from place m ys) (sym (add-zero n))
  planned-append place n (f ∷ xs) ys =
      let size : (n + 1) + length xs ≡ n + suc (length xs) = omega arith in
      rw (planned-append place (n + 1) xs ys, size) (sym (append_assoc (taken place n f) (planned_from place (n + 1) xs) (planned_from place (n + suc (length xs)) ys)))

  planned_behind : (place n : ℕ) (files more : List (List B)) → n ≤ length files → planned (take n files ++ more) workers place ≡ planned (take n files) workers place ++ planned_from place n more
  planned_behind place n files more few =
      let size : 0 + length (take n files) ≡ n = omega (arith, length-take-le n files few) in
      planned-append place 0 (take n files) more ∙ ap (λ (m : ℕ). planned (take n files) workers place ++ planned_from place m more) size

  planned_next : (place n : ℕ) (files : List (List B)) (f : List B) → slice_get files n ≡ Some f → planned (take (n + 1) files) workers place ≡ planned (take n files) workers place ++ taken place n f
  planned_next place n files f at =
      rw (take_next files n f at, planned_behind place n files (f ∷ []) (omega (arith, slice_get_within files n f at)), append-nil (taken place n f)) refl

  -- one file more, of the place or of another
  pub planned_own : (place n : ℕ) (files : List (List B)) (f : List B) → slice_get files n ≡ Some f → n % workers ≡ place → planned (take (n + 1) files) workers place ≡ planned (take n files) workers place ++ f
  planned_own place n files f at is = planned_next place n files f at ∙ ap (λ l. planned (take n files) workers place ++ l) (own place n f is)

  pub planned_other : (place n : ℕ) (files : List (List B)) (f : List B) → slice_get files n ≡ Some f → n % workers ≢ place → planned (take (n + 1) files) workers place ≡ planned (take n files) workers place
  planned_other place n files f at other =
      let none : taken place n f ≡ [] = grind (arith, nat_tests) in
      planned_next place n files f at ∙ ap (λ l. planned (take n files) workers place ++ l) none ∙ append-nil (planned (take n files) workers place)

  -- what holds of the batches of all plans holds of those of each file
  each_from : (P : B → Type 0) (n : ℕ) (files : List (List B)) → 1 ≤ workers → ((w : ℕ) → w < workers → AllByRecursion P (planned_from w n files)) → AllByRecursion (AllByRecursion P) files
  each_from P n [] some all = tt
  each_from P n (f ∷ files) some all =
      let part = λ (w : ℕ) (below : w < workers). all_split P (taken w n f) (planned_from w (n + 1) files) (all w below) in
      (subst (AllByRecursion P) (own (n % workers) n f refl) (part (n % workers) (omega (arith, some))).0, each_from P (n + 1) files some (λ w below. (part w below).1))

pub each_planned : {B : Type 0} (P : B → Type 0) (workers : ℕ) (files : List (List B)) → 1 ≤ workers → ((w : ℕ) → w < workers → AllByRecursion P (planned files workers w)) → AllByRecursion (AllByRecursion P) files
each_planned P workers files some all = each_from workers P 0 files some all

-- the files before one of a worker's, and a beginning of that, begin its plan
pub planned_front : {B : Type 0} (k number workers place : ℕ) (files : List (List B)) → k < length files → k % workers ≡ place
    → IsPrefix (planned (take k files) workers place ++ take number (get_or files k [])) (planned files workers place)
planned_front k number workers place files below is =
    let f = get_or files k [] in
    let before = planned (take k files) workers place in
    let rest = planned_from workers place (k + 1) (drop (k + 1) files) in
    let all : planned files workers place ≡ before ++ (f ++ rest) =
    ap (λ fs. planned fs workers place) (sym (take-append-drop k files) ∙ ap (λ fs. take k files ++ fs) (drop_more files k [] below))
    ∙ planned_behind workers place k files (f ∷ drop (k + 1) files) (omega (arith, below))
    ∙ ap (λ l. before ++ (l ++ rest)) (own workers place k f is) in
    (drop number f ++ rest, rw (all, append_assoc, ← append_assoc (take number f) (drop number f) rest, take-append-drop number f) refl)

-- one worker takes all
alone_from : {B : Type 0} (n : ℕ) (files : List (List B)) → planned_from 1 0 n files ≡ flat_map (λ f. f) files
alone_from n [] = refl
alone_from n (f ∷ files) = rw (own 1 0 n f (omega arith), alone_from (n + 1) files) refl

pub planned_alone : {B : Type 0} (files : List (List B)) → planned files 1 0 ≡ flat_map (λ f. f) files
planned_alone files = alone_from 0 files

module _ {A B : Type 0} (f : A → B) where
  mapped_or_none : (b : Bool) (x : List A) → cond b (map f x) [] ≡ map f (cond b x [])
  mapped_or_none true x = refl
  mapped_or_none false x = refl

  mapped_from : (n workers place : ℕ) (files : List (List A)) → planned_from workers place n (map (map f) files) ≡ map f (planned_from workers place n files)
  mapped_from n workers place [] = refl
  mapped_from n workers place (x ∷ files) =
      rw (mapped_or_none ((n % workers) == place) x, mapped_from (n + 1) workers place files)
      (sym (map-append f (taken workers place n x) (planned_from workers place (n + 1) files)))

  -- the plan of the files with each batch as it is seen
  pub planned-map : (files : List (List A)) (workers place : ℕ) → planned (map (map f) files) workers place ≡ map f (planned files workers place)
  planned-map files workers place = mapped_from 0 workers place files

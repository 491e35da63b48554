-- The parts that workers have of a history.
use Rattle.std.proofs.Common.{◌≡◌, ◌∙◌, ◌⊎◌, inl, inr, ℕ, zero, suc, ◌+◌, ◌<◌, ◌≤◌, List, [], ◌∷◌, ◌++◌, length, get_or, Bool, true, false, cond, map, refl, ap, sym, subst, arith, length-append}
use Rattle.std.specs.Prelude.{◌==◌, All, nat_lt, sum_by}
use Rattle.std.proofs.lemmas.Bool.Decides.{nat_tests}
use Rattle.std.proofs.lemmas.List.{append-nil}
use Rattle.std.proofs.lemmas.List.Elements.{filter-append}
use Rattle.std.proofs.lemmas.List.Sums.{sum_by-append}
use mathlib.Core.List.{IsPrefix}
use Rattle.arrays.specs.Batch.{Table}
use Rattle.histories.proofs.PrefixLemmas.{prefix_length}
use Rattle.shared.proofs.HandLemmas.{count_of, some as some_of}
use Rattle.shared.proofs.KnownLemmas.{begins_trans}
use Rattle.shared.specs.Prelude.{AllThere, Hand, HasAllItsPairs, InOrder, IsBeginning, IsOfWorkers, IsWorkerOf, Known, calls_of_hand, sum_below}
use Rattle.table.specs.Prelude.{History, of, widened, widened_table}
use Rattle.table.proofs.WidenedLemmas.{length-widened, of-widened, widened-again}

-- ---- items in their order

module _ {A : Type 0} where
  order_length : (xs ys : List A) → InOrder xs ys → length xs ≤ length ys
  order_length [] ys o = omega arith
  order_length (x ∷ xs) [] o = absurd o
  order_length (x ∷ xs) (y ∷ ys) (inl p) = omega (arith, order_length xs ys p.1)
  order_length (x ∷ xs) (y ∷ ys) (inr p) = omega (arith, order_length (x ∷ xs) ys p)

  -- as many are all
  order_whole : (xs ys : List A) → InOrder xs ys → length ys ≤ length xs → xs ≡ ys
  order_whole [] [] o few = refl
  order_whole [] (y ∷ ys) o few = absurd (omega (arith, few))
  order_whole (x ∷ xs) [] o few = absurd o
  order_whole (x ∷ xs) (y ∷ ys) (inl p) few = let rest = order_whole xs ys p.1 (omega (arith, few)) in cc (p.0, rest)
  order_whole (x ∷ xs) (y ∷ ys) (inr p) few = absurd (omega (arith, few, order_length (x ∷ xs) ys p))

  order_more : (xs ys zs : List A) → InOrder xs ys → InOrder xs (ys ++ zs)
  order_more [] ys zs o = tt
  order_more (x ∷ xs) [] zs o = absurd o
  order_more (x ∷ xs) (y ∷ ys) zs (inl p) = inl (p.0, order_more xs ys zs p.1)
  order_more (x ∷ xs) (y ∷ ys) zs (inr p) = inr (order_more (x ∷ xs) ys zs p)

  order_push : (xs ys : List A) (z : A) → InOrder xs ys → InOrder (xs ++ z ∷ []) (ys ++ z ∷ [])
  order_push [] [] z o = inl (refl, tt)
  order_push [] (y ∷ ys) z o = inr (order_push [] ys z tt)
  order_push (x ∷ xs) [] z o = absurd o
  order_push (x ∷ xs) (y ∷ ys) z (inl p) = inl (p.0, order_push xs ys z p.1)
  order_push (x ∷ xs) (y ∷ ys) z (inr p) = inr (order_push (x ∷ xs) ys z p)

order_map : {A B : Type 0} (f : A → B) (xs ys : List A) → InOrder xs ys → InOrder (map f xs) (map f ys)
order_map f [] ys o = tt
order_map f (x ∷ xs) [] o = absurd o
order_map f (x ∷ xs) (y ∷ ys) (inl p) = inl (ap f p.0, order_map f xs ys p.1)
order_map f (x ∷ xs) (y ∷ ys) (inr p) = inr (order_map f (x ∷ xs) ys p)

-- ---- a worker's part

abbrev is_of : ℕ → ℕ × Table → Bool
is_of w e = e.0 == w

same_test : (a b : ℕ) → a ≡ b → (a == b) ≡ true
same_test a b same = grind (arith, nat_tests)

-- what stands in order in a part stands so in that of a longer history
pub part_begun : (mine h k : History) (w : ℕ) → IsPrefix h k → InOrder mine (of h w) → InOrder mine (of k w)
part_begun mine h k w begun o =
    subst (λ (l : History). InOrder mine l)
    (sym (filter-append (is_of w) h begun.0) ∙ ap (λ (l : History). of l w) begun.1)
    (order_more mine (of h w) (of begun.0 w) o)

-- one's own pair behind both
pub part_pushed : (mine h : History) (w : ℕ) (t : Table) → InOrder mine (of h w) → InOrder (mine ++ (w, t) ∷ []) (of (h ++ (w, t) ∷ []) w)
part_pushed mine h w t o =
    let own : of ((w, t) ∷ []) w ≡ (w, t) ∷ [] = ap (λ b. cond b ((w, t) ∷ []) []) (same_test w w refl) in
    subst (λ (l : History). InOrder (mine ++ (w, t) ∷ []) l)
    (sym (filter-append (is_of w) h ((w, t) ∷ []) ∙ ap (λ (l : History). of h w ++ l) own))
    (order_push mine (of h w) (w, t) o)

-- the same, where more fields may be known
pub part_wider : (k l : Known) (mine : History) (w : ℕ) → IsBeginning k l → InOrder (widened (length k.fields) mine) (of k.history w) → InOrder (widened (length l.fields) mine) (of l.history w)
part_wider k l mine w begun o =
    let m = length k.fields in
    let n = length l.fields in
    let few : m ≤ n = prefix_length k.fields l.fields begun.fields in
    let wide : InOrder (widened n (widened m mine)) (widened n (of k.history w)) =
    order_map (λ (e : ℕ × Table). (e.0, widened_table n e.1)) (widened m mine) (of k.history w) o in
    part_begun (widened n mine) (widened n k.history) l.history w begun.history
    (subst (λ (h : History). InOrder h (of (widened n k.history) w)) (widened-again m n few mine)
    (subst (λ (h : History). InOrder (widened n (widened m mine)) h) (sym (of-widened n k.history w)) wide))

pub part_more : (count : ℕ) (k l : Known) (w : Hand) → IsWorkerOf count k w → IsBeginning k l → IsWorkerOf count l w
part_more count k l w is begun = record {
  below = is.below;
  begun = begins_trans w.seen k l is.begun begun;
  ordered = part_wider k l w.mine w.number begun is.ordered;
}

-- ---- sums

sum_same : (n : ℕ) (f g : ℕ → ℕ) → ((w : ℕ) → f w ≡ g w) → sum_below n f ≡ sum_below n g
sum_same zero f g same = refl
sum_same (suc n) f g same = omega (arith, sum_same n f g same, same n)

sum_both : (n : ℕ) (f g : ℕ → ℕ) → sum_below n (λ w. f w + g w) ≡ sum_below n f + sum_below n g
sum_both zero f g = refl
sum_both (suc n) f g = omega (arith, sum_both n f g)

sum_none : (n : ℕ) → sum_below n (λ w. 0) ≡ 0
sum_none zero = refl
sum_none (suc n) = omega (arith, sum_none n)

sum_ones : (n : ℕ) → sum_below n (λ w. 1) ≡ n
sum_ones zero = refl
sum_ones (suc n) = omega (arith, sum_ones n)

sum_less : (n : ℕ) (f g : ℕ → ℕ) → ((w : ℕ) → w < n → f w ≤ g w) → sum_below n f ≤ sum_below n g
sum_less zero f g less = omega arith
sum_less (suc n) f g less = omega (arith, sum_less n f g (λ w below. less w (omega (arith, below))), less n (omega arith))

one_more : (a n k : ℕ) → cond (nat_lt a (suc n)) k 0 ≡ cond (nat_lt a n) k 0 + cond (a == n) k 0
one_more a n k = grind (arith, nat_tests)

sum_at : (n a k : ℕ) → sum_below n (λ w. cond (a == w) k 0) ≡ cond (nat_lt a n) k 0
sum_at zero a k = grind (arith, nat_tests)
sum_at (suc n) a k = omega (arith, sum_at n a k, one_more a n k)

sum_of_one : (n a k : ℕ) → a < n → sum_below n (λ w. cond (a == w) k 0) ≡ k
sum_of_one n a k below = let all = sum_at n a k in grind (arith, nat_tests, all, below)

last_or_before : (w n : ℕ) → w < suc n → (b : Bool) → (w == n) ≡ b → (w < n) ⊎ (w ≡ n)
last_or_before w n below true is = inr (grind (arith, nat_tests))
last_or_before w n below false is = inl (grind (arith, nat_tests))

sum_cases : (n : ℕ) (f g : ℕ → ℕ) (w : ℕ) → (w < n) ⊎ (w ≡ n) → (w < n → g w ≤ f w) → g n ≤ f n → g w ≤ f w
sum_cases n f g w (inl below) before last = before below
sum_cases n f g w (inr same) before last = subst (λ m. g m ≤ f m) (sym same) last

-- where each is no more and all together are no less, each is no less
sum_each : (n : ℕ) (f g : ℕ → ℕ) → ((w : ℕ) → w < n → f w ≤ g w) → sum_below n g ≤ sum_below n f → (w : ℕ) → w < n → g w ≤ f w
sum_each zero f g less all w below = absurd (omega (arith, below))
sum_each (suc n) f g less all w below =
    let before = λ (v : ℕ) (lt : v < n). less v (omega (arith, lt)) in
    let sums = sum_less n f g before in
    let last = less n (omega arith) in
    sum_cases n f g w (last_or_before w n below (w == n) refl) (λ lt. sum_each n f g before (omega (arith, all, last)) w lt) (omega (arith, all, sums))

-- ---- all parts together

length_one : (b : Bool) (e : ℕ × Table) (h : History) → length (cond b (e ∷ h) h) ≡ cond b 1 0 + length h
length_one true e h = omega arith
length_one false e h = omega arith

-- the parts of all workers have as many pairs as the history
parts_length : (count : ℕ) (h : History) → IsOfWorkers count h → sum_below count (λ w. length (of h w)) ≡ length h
parts_length count [] all = sum_none count
parts_length count (e ∷ h) all =
    let first : e.0 < count = all 0 e (omega arith) in
    let rest : IsOfWorkers count h = λ i d below. all (suc i) d (omega (arith, below)) in
    omega (
      arith,
      sum_same count (λ w. length (of (e ∷ h) w)) (λ w. cond (e.0 == w) 1 0 + length (of h w)) (λ w. length_one (e.0 == w) e (of h w)),
      sum_both count (λ w. cond (e.0 == w) 1 0) (λ w. length (of h w)),
      sum_of_one count e.0 1 first,
      parts_length count h rest,
    )

pub each_owns : (count : ℕ) (h : History) (m : ℕ → History) → IsOfWorkers count h → ((w : ℕ) → w < count → InOrder (m w) (of h w))
    → sum_below count (λ w. length (m w)) ≡ length h → (w : ℕ) → w < count → m w ≡ of h w
each_owns count h m all ordered sum w below =
    let less = λ (v : ℕ) (lt : v < count). order_length (m v) (of h v) (ordered v lt) in
    order_whole (m w) (of h w) (ordered w below)
    (sum_each count (λ v. length (m v)) (λ v. length (of h v)) less (omega (arith, sum, parts_length count h all)) w below)

-- ---- hands

-- the pairs of all hands of a number, with so many items in a row
abbrev mines : ℕ → ℕ → List Hand → History
mines n w [] = []
mines n w (x ∷ hands) = cond (x.number == w) (widened n x.mine) [] ++ mines n w hands

length_cond : (b : Bool) (n : ℕ) (h : History) → length (cond b (widened n h) []) ≡ cond b (length h) 0
length_cond true n h = length-widened n h
length_cond false n h = refl

mines_sum : (count : ℕ) (k : Known) (n : ℕ) (hands : List Hand) → All (IsWorkerOf count k) hands → sum_below count (λ w. length (mines n w hands)) ≡ sum_by calls_of_hand hands
mines_sum count k n [] all = sum_none count
mines_sum count k n (x ∷ hands) all =
    let rest : All (IsWorkerOf count k) hands = λ i d below. all (suc i) d (omega (arith, below)) in
    let split : sum_by calls_of_hand (x ∷ hands) ≡ (0 + length x.mine) + sum_by calls_of_hand hands = sum_by-append calls_of_hand (x ∷ []) hands in
    omega (
      arith,
      split,
      sum_same count (λ w. length (mines n w (x ∷ hands))) (λ w. cond (x.number == w) (length x.mine) 0 + length (mines n w hands))
          (λ w. length-append (cond (x.number == w) (widened n x.mine) []) (mines n w hands) ∙ ap (λ m. m + length (mines n w hands)) (length_cond (x.number == w) n x.mine)),
      sum_both count (λ w. cond (x.number == w) (length x.mine) 0) (λ w. length (mines n w hands)),
      sum_of_one count x.number (length x.mine) (all 0 x (omega arith)).below,
      mines_sum count k n hands rest,
    )

counts_sum : (count : ℕ) (k : Known) (hands : List Hand) → All (IsWorkerOf count k) hands → sum_below count (λ w. count_of w hands) ≡ length hands
counts_sum count k [] all = sum_none count
counts_sum count k (x ∷ hands) all =
    let rest : All (IsWorkerOf count k) hands = λ i d below. all (suc i) d (omega (arith, below)) in
    omega (
      arith,
      sum_both count (λ w. cond (x.number == w) 1 0) (λ w. count_of w hands),
      sum_of_one count x.number 1 (all 0 x (omega arith)).below,
      counts_sum count k hands rest,
    )

none_first : (n w : ℕ) (x : Hand) (hands : List Hand) (b : Bool) → cond b 1 0 + count_of w hands ≤ 0 → (count_of w hands ≤ 0 → mines n w hands ≡ [])
    → cond b (widened n x.mine) [] ++ mines n w hands ≡ []
none_first n w x hands true none rest = absurd (omega (arith, none))
none_first n w x hands false none rest = rest (omega (arith, none))

mines_none : (n w : ℕ) (hands : List Hand) → count_of w hands ≤ 0 → mines n w hands ≡ []
mines_none n w [] none = refl
mines_none n w (x ∷ hands) none = none_first n w x hands (x.number == w) none (λ few. mines_none n w hands few)

-- the one hand of a number
mine_first : (n w : ℕ) (x : Hand) (hands : List Hand) → count_of w (x ∷ hands) ≤ 1 → (x.number == w) ≡ true → mines n w (x ∷ hands) ≡ widened n x.mine
mine_first n w x hands one is =
    let none : count_of w hands ≤ 0 = let first = ap {B = ℕ} (λ b. cond b 1 0) is in omega (arith, one, first) in
    ap (λ b. cond b (widened n x.mine) [] ++ mines n w hands) is ∙ ap (λ (l : History). widened n x.mine ++ l) (mines_none n w hands none) ∙ append-nil (widened n x.mine)

counted_at : (w : ℕ) (hands : List Hand) (i : ℕ) (d : Hand) → i < length hands → (get_or hands i d).number ≡ w → 1 ≤ count_of w hands
counted_at w [] i d below is = absurd (omega (arith, below))
counted_at w (x ∷ hands) zero d below is = let one = ap {B = ℕ} (λ b. cond b 1 0) (same_test x.number w is) in omega (arith, one)
counted_at w (x ∷ hands) (suc i) d below is = let tail = counted_at w hands i d (omega (arith, below)) is in omega (arith, tail)

other_first : (n w : ℕ) (x : Hand) (hands : List Hand) (mine : History) (b : Bool) → cond b 1 0 + count_of w hands ≤ 1 → 1 ≤ count_of w hands → mines n w hands ≡ mine
    → cond b (widened n x.mine) [] ++ mines n w hands ≡ mine
other_first n w x hands mine true one there rest = absurd (omega (arith, one, there))
other_first n w x hands mine false one there rest = rest

mine_at : (n w : ℕ) (hands : List Hand) (i : ℕ) (d : Hand) → i < length hands → (get_or hands i d).number ≡ w → count_of w hands ≤ 1 → mines n w hands ≡ widened n (get_or hands i d).mine
mine_at n w [] i d below is one = absurd (omega (arith, below))
mine_at n w (x ∷ hands) zero d below is one = mine_first n w x hands one (same_test x.number w is)
mine_at n w (x ∷ hands) (suc i) d below is one =
    other_first n w x hands (widened n (get_or hands i d).mine) (x.number == w) one (counted_at w hands i d (omega (arith, below)) is)
    (mine_at n w hands i d (omega (arith, below)) is (omega (arith, one)))

first_ordered : (count : ℕ) (k : Known) (w : ℕ) (x : Hand) (hands : List Hand) → IsWorkerOf count k x → count_of w (x ∷ hands) ≤ 1 → InOrder (mines (length k.fields) w hands) (of k.history w)
    → (b : Bool) → (x.number == w) ≡ b → InOrder (mines (length k.fields) w (x ∷ hands)) (of k.history w)
first_ordered count k w x hands is one rest true test =
    let number : x.number ≡ w = grind (arith, nat_tests) in
    subst (λ (l : History). InOrder l (of k.history w)) (sym (mine_first (length k.fields) w x hands one test))
    (subst (λ n. InOrder (widened (length k.fields) x.mine) (of k.history n)) number is.ordered)
first_ordered count k w x hands is one rest false test =
    subst (λ (l : History). InOrder l (of k.history w)) (sym (ap (λ b. cond b (widened (length k.fields) x.mine) [] ++ mines (length k.fields) w hands) test)) rest

mines_ordered : (count : ℕ) (k : Known) (w : ℕ) (hands : List Hand) → All (IsWorkerOf count k) hands → count_of w hands ≤ 1 → InOrder (mines (length k.fields) w hands) (of k.history w)
mines_ordered count k w [] all one = tt
mines_ordered count k w (x ∷ hands) all one =
    first_ordered count k w x hands (all 0 x (omega arith)) one
    (mines_ordered count k w hands (λ i d below. all (suc i) d (omega (arith, below))) (omega (arith, one)))
    (x.number == w) refl

-- all hands of so many workers, who together made all calls, have each its own part
pub all_whole : (count : ℕ) (k : Known) (hands : List Hand) → IsOfWorkers count k.history → AllThere count hands → length hands ≤ count → All (IsWorkerOf count k) hands
    → length k.history ≡ sum_by calls_of_hand hands → All (HasAllItsPairs k) hands
all_whole count k hands workers there few all sum =
    let n = length k.fields in
    let some = λ (w : ℕ) (below : w < count). some_of w hands (there w below) in
    let one = sum_each count (λ w. 1) (λ w. count_of w hands) some (omega (arith, counts_sum count k hands all, sum_ones count, few)) in
    let owns =
    each_owns count k.history (λ w. mines n w hands) workers (λ w below. mines_ordered count k w hands all (one w below)) (omega (arith, mines_sum count k n hands all, sum)) in
    λ i d below.
    let x = get_or hands i d in
    let is = all i d below in
    record {
      begun = is.begun;
      whole = sym (owns x.number is.below) ∙ mine_at n x.number hands i d below refl (one x.number is.below);
    }

-- So many numbers need as many workers.
use Rattle.std.proofs.Common.{◌≡◌, ◌∙◌, ℕ, zero, suc, ◌++◌, ◌+◌, ◌≤◌, List, [], ◌∷◌, length, Bool, true, false, cond, refl, arith}
use Rattle.std.specs.Prelude.{◌==◌, ◌||◌, nat_lt}
use Rattle.std.proofs.lemmas.Bool.{false≢true}
use Rattle.std.proofs.lemmas.Bool.Decides.{nat_tests}
use Rattle.arrays.specs.Prelude.{FieldShape}
use Rattle.shared.specs.Prelude.{AllThere, AreNew, Hand, IsNew, is_there}

abbrev count_below : ℕ → List Hand → ℕ
count_below n [] = 0
count_below n (h ∷ hands) = cond (nat_lt h.number n) 1 0 + count_below n hands

abbrev pub count_of : ℕ → List Hand → ℕ
count_of n [] = 0
count_of n (h ∷ hands) = cond (h.number == n) 1 0 + count_of n hands

one_more : (m n : ℕ) → cond (nat_lt m (suc n)) 1 0 ≡ cond (nat_lt m n) 1 0 + cond (m == n) 1 0
one_more m n = grind (arith, nat_tests)

more : (n : ℕ) (hands : List Hand) → count_below (suc n) hands ≡ count_below n hands + count_of n hands
more n [] = refl
more n (h ∷ hands) = omega (arith, one_more h.number n, more n hands)

at_most_one : (b : Bool) → cond b 1 0 ≤ 1
at_most_one true = omega arith
at_most_one false = omega arith

within : (n : ℕ) (hands : List Hand) → count_below n hands ≤ length hands
within n [] = omega arith
within n (h ∷ hands) = let tail = within n hands in let one = at_most_one (nat_lt h.number n) in omega (arith, tail, one)

some_first : (b rest : Bool) (count : ℕ) → (b || rest) ≡ true → (rest ≡ true → 1 ≤ count) → 1 ≤ cond b 1 0 + count
some_first true rest count is tail = omega arith
some_first false rest count is tail = omega (arith, tail is)

pub some : (n : ℕ) (hands : List Hand) → is_there hands n ≡ true → 1 ≤ count_of n hands
some n [] there = absurd (false≢true there)
some n (h ∷ hands) there = some_first (h.number == n) (is_there hands n) (count_of n hands) there (some n hands)

many : (n : ℕ) (hands : List Hand) → AllThere n hands → n ≤ count_below n hands
many zero hands all = omega arith
many (suc n) hands all =
    let fewer = many n hands (λ m lt. all m (omega (arith, lt))) in
    omega (arith, fewer, more n hands, some n hands (all n (omega arith)))

-- so many numbers need as many workers
pub enough : (n : ℕ) (hands : List Hand) → AllThere n hands → n ≤ length hands
enough n hands all = omega (arith, many n hands all, within n hands)

-- a new worker more
pub new_push : (fields : List FieldShape) (first : ℕ) (hands : List Hand) (h : Hand) → AreNew fields first hands → IsNew fields (first + length hands) h → AreNew fields first (hands ++ h ∷ [])
new_push fields first [] h all one = (record { numbered = one.numbered ∙ omega arith; seen = one.seen; mine = one.mine; columns = one.columns; left = one.left }, tt)
new_push fields first (x ∷ hands) h all one =
    (all.0, new_push fields (first + 1) hands h all.1 (record { numbered = one.numbered ∙ omega arith; seen = one.seen; mine = one.mine; columns = one.columns; left = one.left }))

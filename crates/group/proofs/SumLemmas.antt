-- The sum of the numbers so far.
use Rattle.std.proofs.Common.{◌≡◌, ◌∙◌, ℕ, ◌+◌, ◌*◌, ◌^◌, ℤ, pos, neg_ℤ, ◌+ℤ◌, ◌≤ℤ◌, List, [], ◌∷◌, ◌++◌, ap, sym, arith}
use Rattle.std.specs.List.{fold}
use Rattle.std.proofs.lemmas.Int.{ints}
use Rattle.std.proofs.lemmas.List.{append-nil}
use Rattle.std.proofs.lemmas.List.Sums.{fold_push}
use Rattle.std.proofs.lemmas.List.Elements.{filter_map-append}
use Rattle.arrays.specs.Prelude.{Item, int, null}
use Rattle.group.specs.Stats.{number_of, numbers_of}

-- the sum of the numbers among some items, of which there are no more than n
pub record IsSum (n : ℕ) (sum : ℤ) (items : List Item) : Type 0 where
  pub value : sum ≡ fold ◌+ℤ◌ (pos 0) (numbers_of items)
  pub low : neg_ℤ (pos (2 ^ 64 * n)) ≤ℤ sum
  pub high : sum ≤ℤ pos (2 ^ 64 * n)

pub IsSum-null : (n : ℕ) (sum : ℤ) (items : List Item) → IsSum n sum items → IsSum (n + 1) sum (items ++ null ∷ [])
IsSum-null n sum items is =
    let same : numbers_of (items ++ null ∷ []) ≡ numbers_of items = filter_map-append number_of items (null ∷ []) ∙ append-nil (numbers_of items) in
    record {
      value = is.value ∙ sym (ap (fold ◌+ℤ◌ (pos 0)) same);
      low = omega (arith, ints, is.low);
      high = omega (arith, ints, is.high);
    }

pub IsSum-number : (n : ℕ) (sum : ℤ) (items : List Item) (z : ℤ) → neg_ℤ (pos (2 ^ 64)) ≤ℤ z → z ≤ℤ pos (2 ^ 64) → IsSum n sum items → IsSum (n + 1) (sum +ℤ z) (items ++ int z ∷ [])
IsSum-number n sum items z low high is =
    let grown : numbers_of (items ++ int z ∷ []) ≡ numbers_of items ++ z ∷ [] = filter_map-append number_of items (int z ∷ []) in
    record {
      value = ap (λ m. m +ℤ z) is.value ∙ sym (ap (fold ◌+ℤ◌ (pos 0)) grown ∙ fold_push ◌+ℤ◌ (pos 0) (numbers_of items) z);
      low = omega (arith, ints, is.low, low);
      high = omega (arith, ints, is.high, high);
    }

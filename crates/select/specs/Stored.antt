-- Numbers as they lie in a column.
use Rattle.std.specs.Prelude.{◌≡◌, ℕ, ◌*◌, ◌<◌, List, Bool, false, length, Option, Some, None, IfSome, slice_index_or}
use Rattle.arrays.specs.Prelude.{IntType, bytes_of, number_at, valid_in}

-- Whether a row is picked, and its slot is valid.
abbrev pub is_stored : Option (List Bool) → Option ℕ → Bool
is_stored validity None = false
is_stored validity (Some i) = valid_in validity i

-- The values have a number for each of the first n picks: where a row is picked, the one that lies there.
pub record AreStored (t : IntType) (bytes : List ℕ) (picks : List (Option ℕ)) (n : ℕ) (values : List ℕ) : Type 0 where
  pub size : length values ≡ n * bytes_of t.bits
  pub numbers : (j : ℕ) → j < n → IfSome (slice_index_or picks j None) (λ i. number_at t values j ≡ number_at t bytes i)

-- Rows that indices name.
use Rattle.std.specs.Prelude.{◌≡◌, ℕ, ◌<◌, List, Bool, map, true, false, Option, option_map}
use Rattle.std.specs.List.{range_with_len}
use Rattle.arrays.specs.Prelude.{IntType, Item, is_code, item_of, natural, number_in}

-- Index j, null where its slot isn't valid.
abbrev pub index_at : IntType → List ℕ → Option (List Bool) → ℕ → Item
index_at t bytes validity j = item_of (number_in t bytes validity j)

-- The row that index j names, none where it is null.
abbrev pub row_named : IntType → List ℕ → Option (List Bool) → ℕ → Option ℕ
row_named t bytes validity j = option_map natural (number_in t bytes validity j)

-- The rows that the first n indices name.
abbrev pub rows_named : IntType → List ℕ → Option (List Bool) → ℕ → List (Option ℕ)
rows_named t bytes validity n = map (row_named t bytes validity) (range_with_len 0 n)

-- Each of the first n indices is null, or names one of so many rows.
pub record NameRows (t : IntType) (bytes : List ℕ) (validity : Option (List Bool)) (rows n : ℕ) : Type 0 where
  pub each : (j : ℕ) → j < n → is_code rows (index_at t bytes validity j) ≡ true

-- The least of n indices that is there and names none of them.
pub record IsLeastOutside (t : IntType) (bytes : List ℕ) (validity : Option (List Bool)) (rows n least : ℕ) : Type 0 where
  pub within : least < n
  pub before : NameRows t bytes validity rows least
  pub outside : is_code rows (index_at t bytes validity least) ≡ false

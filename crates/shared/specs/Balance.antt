-- How a table's history stands to its workers.
use Rattle.std.specs.Prelude.{◌≡◌, ℕ, ◌+◌, ◌<◌, All, List, length}
use Rattle.arrays.specs.Prelude.{FieldShape}
use Rattle.shared.specs.Known.{IsLegalKnown, Known, known_of}
use Rattle.table.specs.Prelude.{Contents, History, rows}

-- Each pair's worker is one of so many.
abbrev pub IsOfWorkers : ℕ → History → Type 0
IsOfWorkers count h = All (λ e. e.0 < count) h

-- The first number counts the pairs, the second their rows.
pub record IsBalanced (calls row_count : ℕ) (h : History) : Type 0 where
  pub pairs : calls ≡ length h
  pub rows_counted : row_count ≡ length (rows h)

-- The table shows what is known, and each pair's worker is one of so many.
pub record ShowsKnown (count : ℕ) (k : Known) (c : Contents) : Type 0 where
  pub known : k ≡ known_of c
  pub workers : IsOfWorkers count c.history

-- The table of so many workers, which was opened with these fields, shows what is known, which is legal; and the numbers count its
-- pairs, their rows, and the fields that came since.
pub record CountsKnown (count : ℕ) (first : List FieldShape) (calls row_count columns : ℕ) (k : Known) (c : Contents) : Type 0 where
  pub balanced : IsBalanced calls row_count c.history
  pub shown : ShowsKnown count k c
  pub legal : IsLegalKnown (known_of c)
  pub widened_by : length c.fields ≡ length first + columns

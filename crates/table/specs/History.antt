-- What a table holds: rows, and who added which of them.
use Rattle.std.specs.Prelude.{ℕ, ◌==◌, List, [], ◌∷◌, map, filter, length, take, drop}
use Rattle.std.specs.List.{flat_map}
use Rattle.arrays.specs.Batch.{Table}

-- A history is a list of pairs: a worker, and the table that it added.
abbrev pub History : Type 0
History = List (ℕ × Table)

-- The rows of all pairs, one pair after the other.
abbrev pub rows : History → Table
rows h = flat_map (λ e. e.1) h

-- The pairs of one worker.
abbrev pub of : History → ℕ → History
of h worker = filter (λ e. e.0 == worker) h

-- Each pair's worker, and how many rows it added.
abbrev pub book : History → List (ℕ × ℕ)
book h = map (λ e. (e.0, length e.1)) h

-- The history with this book and these rows.
abbrev pub history_from : List (ℕ × ℕ) → Table → History
history_from [] t = []
history_from (e ∷ rest) t = (e.0, take e.1 t) ∷ history_from rest (drop e.1 t)

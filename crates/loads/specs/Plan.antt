-- Which worker takes which files.
use Rattle.std.specs.Prelude.{ℕ, ◌%◌, ◌==◌, List, [], if◌then◌else◌}
use Rattle.std.specs.List.{enumerate_from, flat_map}

-- The batches, in order, of the files whose number leaves this remainder by the number of workers.
module _ {B : Type 0} where
  abbrev pub planned : List (List B) → ℕ → ℕ → List B
  planned files workers place = flat_map (λ e. if (e.0 % workers) == place then e.1 else []) (enumerate_from 0 files)

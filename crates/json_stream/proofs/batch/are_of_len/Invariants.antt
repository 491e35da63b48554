use Rattle.std.proofs.Common.{◌≡◌, ℕ, ◌<◌, length}
use Rattle.std.specs.Prelude.{slice_index_or}
use Rattle.arrays.specs.Prelude.{Seen}
use Rattle.json_stream.proofs.batch.are_of_len.Given as goal

-- the columns so far have so many slots
abbrev pub invariant-loop-column : goal.invariant-loop-column
invariant-loop-column l = (k : ℕ) (d : Seen) → k < l.column-index → length (slice_index_or l.columns k d).items ≡ l.len

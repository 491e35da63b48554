use Rattle.std.proofs.Common.{◌≡◌, map}
use Rattle.std.specs.List.{range_with_len}
use Rattle.answers.specs.Answers.{group_shape}
use Rattle.results.specs.Result.{answer_column}
use Rattle.results.proofs.result.result_columns.Given as goal

-- The columns so far.
abbrev pub invariant-loop-place : goal.invariant-loop-place
invariant-loop-place l = l.columns.items ≡ map (answer_column l.types (map group_shape l.groups)) (range_with_len 0 l.place)

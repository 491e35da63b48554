use Rattle.std.proofs.Common.{◌≡◌, map, take}
use Rattle.answers.specs.Answers.{group_shape}
use Rattle.results.specs.Prelude.{item_at, only_of}
use Rattle.results.specs.declared.result_type.ResultType.TheVariants.{Bool}
use Rattle.results.proofs.column.bool_column.Given as goal

abbrev pub invariant-loop-group : goal.invariant-loop-group
invariant-loop-group l = l.truths ≡ map (only_of Bool) (map (item_at l.place) (map group_shape (take l.group-index l.groups)))

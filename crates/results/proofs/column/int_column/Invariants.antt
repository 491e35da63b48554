use Rattle.std.proofs.Common.{◌≡◌, map, take}
use Rattle.answers.specs.Answers.{group_shape}
use Rattle.results.specs.Prelude.{item_at, only_of}
use Rattle.results.specs.declared.result_type.ResultType.TheVariants.{Int}
use Rattle.results.proofs.column.int_column.Given as goal

abbrev pub invariant-loop-group : goal.invariant-loop-group
invariant-loop-group l = record {
  ty : l.numbers.ty ≡ l.fn.ty;
  items : l.numbers.items ≡ map (only_of (Int l.fn.ty)) (map (item_at l.place) (map group_shape (take l.group-index l.groups)));
}

use Rattle.std.proofs.Common.{◌≡◌, map, take}
use Rattle.arrays.specs.Prelude.{Wide}
use Rattle.answers.specs.Answers.{group_shape}
use Rattle.results.specs.Result.{item_at, decimal_text}
use Rattle.results.proofs.column.text_column.Given as goal

abbrev pub invariant-loop-group : goal.invariant-loop-group
invariant-loop-group l = record {
  width : l.texts.width ≡ Wide;
  items : l.texts.items ≡ map decimal_text (map (item_at l.place) (map group_shape (take l.group-index l.groups)));
}

-- A cell of an answer, in the making of a column.
use Rattle.std.specs.Prelude.{if◌then◌else◌}
use Rattle.arrays.specs.Item as item
use Rattle.arrays.specs.Prelude.{Item}
use Rattle.results.specs.declared.result_type.ResultType.{ResultType}
use Rattle.results.specs.Result.{is_of}

-- The item, null where it isn't of the type.
abbrev pub only_of : ResultType → Item → Item
only_of t x = if is_of t x then x else item.null

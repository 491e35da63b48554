-- Which slots are valid, in the making.
use Rattle.std.specs.Prelude.{List, ◌++◌, Bool, true, replicate}
use Rattle.arrays.specs.declared.builder.validity.ValidityBuilder.TheInside.{Inside}

-- The first slots are valid, the others are given.
abbrev pub show_validity : Inside → List Bool
show_validity b = replicate b.before true ++ b.after

-- Scalars, owned and borrowed, as items.
use Rattle.std.specs.Prelude.{Option, Some, None, if◌then◌else◌, option_map}
use Rattle.arrays.specs.Prelude.{Item, boolean, int, is_null, null, text}
use Rattle.group.specs.Summary.{scalar_item}
use Rattle.group.specs.declared.stats.Scalar.{Scalar}
use Rattle.group.specs.declared.scalar_ref.ScalarRef.{ScalarRef}
use Rattle.group.specs.declared.scalar_ref.ScalarRef.TheVariants as scalar

-- The item, null where there is none.
abbrev pub item_or_null : Option Item → Item
item_or_null None = null
item_or_null (Some x) = x

-- The item, none where it is null.
abbrev pub item_if_any : Item → Option Item
item_if_any x = if is_null x then None else Some x

abbrev pub item_of_scalar : Option Scalar → Item
item_of_scalar s = item_or_null (option_map scalar_item s)

abbrev pub item_of_ref : ScalarRef → Item
item_of_ref scalar.Null = null
item_of_ref (scalar.Int z) = int z
item_of_ref (scalar.Bool b) = boolean b
item_of_ref (scalar.Text s) = text s.now

-- The order of items: numbers by value, false before true, texts byte by byte, a front before what it begins.
use Rattle.std.specs.declared.cmp.Ordering.{Ordering}
use Rattle.std.specs.declared.cmp.Ordering.TheVariants.{Equal}
use Rattle.std.specs.Ordering.{int_cmp, bool_cmp, nat_cmp}
use Rattle.std.specs.Cmp.Lexicographic.{slice_cmp}
use Rattle.layout.specs.Item as item
use Rattle.layout.specs.Item.{Item, int, text}

-- How two items of one kind stand to each other.
abbrev pub order : Item → Item → Ordering
order (int x) (int y) = int_cmp x y
order (item.boolean x) (item.boolean y) = bool_cmp x y
order (text x) (text y) = slice_cmp nat_cmp x y
order x y = Equal

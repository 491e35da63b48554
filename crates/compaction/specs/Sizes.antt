-- How much texts and lists hold (Arrow columnar format, "Variable-size binary layout", "Variable-size list layout").
use Rattle.std.specs.Prelude.{ℕ, zero, suc, List, length}
use Rattle.arrays.specs.Prelude.{Item, Kind, Narrow, inner_items, text_bytes}
use Rattle.arrays.specs.Kind.{texts, lists}

-- At how many levels a column may hold too much. Texts with offsets of 64 bits never do.
abbrev pub levels : Kind → ℕ
levels (texts Narrow) = 1
levels (lists w k) = suc (levels k)
levels k = 0

-- How many bytes the texts have, or items the lists: those of the column at level 0, else those in its lists, a level higher.
abbrev pub size_at : Kind → ℕ → List Item → ℕ
size_at (texts Narrow) zero items = text_bytes items
size_at (lists w k) zero items = length (inner_items items)
size_at (lists w k) (suc level) items = size_at k level (inner_items items)
size_at k level items = 0

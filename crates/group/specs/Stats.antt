-- What there is to say of all items of a column. (Arrow columnar format, "Null count")
use Rattle.std.specs.Prelude.{ℕ, ℤ, pos, ◌+ℤ◌, List, Bool, true, false, Option, Some, None, fold, count_by, if◌then◌else◌}
use Rattle.std.specs.List.{filter, filter_map, reduce}
use Rattle.std.specs.Ordering.{is_gt}
use Rattle.arrays.specs.Kind as kind
use Rattle.arrays.specs.Prelude.{Item, Kind, boolean, int, is_null, list, null, order, text}

-- How many items are null: of a dictionary-encoded column also those whose entry is null.
abbrev pub nulls_of : List Item → ℕ
nulls_of items = count_by is_null items

-- The number of an item, none where it is no number.
abbrev pub number_of : Item → Option ℤ
number_of null = None
number_of (int z) = Some z
number_of (boolean b) = None
number_of (text t) = None
number_of (list l) = None

-- The numbers that are there, in their order.
abbrev pub numbers_of : List Item → List ℤ
numbers_of items = filter_map number_of items

-- The sum of the numbers that are there, 0 where none is.
abbrev pub total_of : List Item → ℤ
total_of items = fold ◌+ℤ◌ (pos 0) (numbers_of items)

-- The sum of a column of numbers. Other columns have none.
abbrev pub sum_of : Kind → List Item → Option ℤ
sum_of (kind.int t) items = Some (total_of items)
sum_of kind.boolean items = None
sum_of (kind.texts w) items = None
sum_of (kind.lists w k) items = None
sum_of kind.dict items = None

abbrev pub is_number : Item → Bool
is_number null = false
is_number (int z) = true
is_number (boolean b) = false
is_number (text t) = false
is_number (list l) = false

abbrev pub is_truth : Item → Bool
is_truth null = false
is_truth (int z) = false
is_truth (boolean b) = true
is_truth (text t) = false
is_truth (list l) = false

abbrev pub is_bytes : Item → Bool
is_bytes null = false
is_bytes (int z) = false
is_bytes (boolean b) = false
is_bytes (text t) = true
is_bytes (list l) = false

-- Whether the item is a value of the kind, and one that comes before or behind others. Lists have no order.
abbrev pub is_ordered : Kind → Item → Bool
is_ordered (kind.int t) = is_number
is_ordered kind.boolean = is_truth
is_ordered (kind.texts w) = is_bytes
is_ordered (kind.lists w k) = λ x. false
is_ordered kind.dict = is_bytes

-- The values of a column that come before or behind one another: all items that aren't null, and of lists none.
abbrev pub ordered : Kind → List Item → List Item
ordered k items = filter (is_ordered k) items

-- Of two items the one that comes first, and the one that comes last: of equal ones the first of the two.
abbrev pub lesser : Item → Item → Item
lesser x y = if is_gt (order x y) then y else x

abbrev pub greater : Item → Item → Item
greater x y = if is_gt (order y x) then y else x

-- The least and the greatest value of a column, none where there is no value.
abbrev pub least_of : Kind → List Item → Option Item
least_of k items = reduce lesser (ordered k items)

abbrev pub greatest_of : Kind → List Item → Option Item
greatest_of k items = reduce greater (ordered k items)

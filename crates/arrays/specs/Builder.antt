-- A column of numbers in the making.
use Rattle.std.specs.Prelude.{◌≡◌, ℕ, ◌*◌, ◌≤◌, List, Bool, false, map, length, Option, slice_index_or, if◌then◌else◌}
use Rattle.std.specs.List.{range_with_len}
use Rattle.types.specs.declared.int_type.IntType.{IntType}
use Rattle.types.specs.Prelude.{bytes_of, most_slots, number_at}
use Rattle.layout.specs.Prelude.{Item, int, null, valid_in}
use Rattle.arrays.specs.Column.{Column}
use Rattle.arrays.specs.declared.builder.IntBuilder.TheInside.{Inside}

-- A number where the slot is valid.
abbrev pub item_at : IntType → List ℕ → List Bool → ℕ → Item
item_at t values valid j = if slice_index_or valid j false then int (number_at t values j) else null

unfoldable pub built : IntType → List ℕ → List Bool → List Item
built t values valid = map (item_at t values valid) (range_with_len 0 (length valid))

abbrev pub show_builder : Inside → Column
show_builder b = record { ty = b.ty; items = built b.ty b.values.items b.valid }

-- Numbers one behind the other where the slot is valid, else null.
unfoldable pub numbers_where : Option (List Bool) → IntType → List ℕ → ℕ → List Item
numbers_where validity t values n = map (λ j. if valid_in validity j then int (number_at t values j) else null) (range_with_len 0 n)

-- A number for each slot, and no more slots than an array may have.
pub record IsBuilt (t : IntType) (values : List ℕ) (valid : List Bool) : Type 0 where
  pub whole : length values ≡ length valid * bytes_of t.bits
  pub short : length valid ≤ most_slots

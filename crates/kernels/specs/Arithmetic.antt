-- Checked arithmetic on columns of one integer type.
use Rattle.std.specs.Prelude.{ℕ, ℤ, List, Bool, false, not, Option, None, option_map, position}
use Rattle.std.specs.Option.{option_or}
use Rattle.arrays.specs.Prelude.{IntType, Item, Kind, Seen, int, is_of_type, null, same_int}
use Rattle.arrays.specs.Kind as kind
use Rattle.kernels.specs.Lift.{lift}
use Rattle.kernels.specs.Fault.{shape_fault}
use Rattle.kernels.specs.declared.fault.KernelFault.{KernelFault}
use Rattle.kernels.specs.declared.fault.KernelFault.TheVariants.{Overflow}

-- f of two numbers, exactly.
abbrev pub exact : (ℤ → ℤ → ℤ) → Item → Item → Item
exact f (int x) (int y) = int (f x y)
exact f x y = null

-- The exact results, of any size: null where either item is null.
abbrev pub results : (ℤ → ℤ → ℤ) → List Item → List Item → List Item
results f = lift (exact f)

-- A number that the type doesn't have.
abbrev pub is_outside : IntType → Item → Bool
is_outside t (int z) = not (is_of_type t z)
is_outside t x = false

-- The least place where both items are there and the exact result is outside the columns' type.
abbrev pub first_bad : (ℤ → ℤ → ℤ) → Kind → List Item → List Item → Option ℕ
first_bad f (kind.int t) xs ys = position (is_outside t) (results f xs ys)
first_bad f k xs ys = None

-- The two are of one integer type.
abbrev pub are_one_int : Kind → Kind → Bool
are_one_int (kind.int s) (kind.int t) = same_int s t
are_one_int k l = false

-- The types aren't one integer type, else the lengths differ.
abbrev pub operands_fault : Seen → Seen → Option KernelFault
operands_fault a b = shape_fault (are_one_int a.kind b.kind) a b

-- The first fault of all: types, lengths, the least row.
abbrev pub arithmetic_fault : (ℤ → ℤ → ℤ) → Seen → Seen → Option KernelFault
arithmetic_fault f a b = option_or (operands_fault a b) (option_map (λ row. Overflow row) (first_bad f a.kind a.items b.items))

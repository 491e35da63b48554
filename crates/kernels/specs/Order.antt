-- Comparisons.
use Rattle.std.specs.Prelude.{List, Bool, true, ◌&&◌, Option}
use Rattle.std.specs.declared.cmp.Ordering.{Ordering}
use Rattle.std.specs.Ordering.{is_eq, is_ne, is_lt, is_le, is_gt, is_ge}
use Rattle.arrays.specs.Item as item
use Rattle.arrays.specs.Prelude.{Item, Kind, Seen, is_text, order, same_int}
use Rattle.arrays.specs.Kind as kind
use Rattle.kernels.specs.Lift.{lift}
use Rattle.kernels.specs.Fault.{shape_fault}
use Rattle.kernels.specs.declared.comparison.CmpOp.{CmpOp}
use Rattle.kernels.specs.declared.comparison.CmpOp.TheVariants.{Eq, Ne, Lt, Le, Gt, Ge}
use Rattle.kernels.specs.declared.fault.KernelFault.{KernelFault}

-- Whether two items that stand so to each other meet the comparison.
abbrev pub meets : CmpOp → Ordering → Bool
meets Eq = is_eq
meets Ne = is_ne
meets Lt = is_lt
meets Le = is_le
meets Gt = is_gt
meets Ge = is_ge

-- The comparison at each place, null where either item is null.
abbrev pub compared : CmpOp → List Item → List Item → List Item
compared op = lift (λ x y. item.boolean (meets op (order x y)))

-- Numbers of one type, truth values, or texts, dictionary-encoded or not.
abbrev pub are_comparable : Kind → Kind → Bool
are_comparable (kind.int s) (kind.int t) = same_int s t
are_comparable kind.boolean kind.boolean = true
are_comparable k l = is_text k && is_text l

abbrev pub comparison_fault : Seen → Seen → Option KernelFault
comparison_fault a b = shape_fault (are_comparable a.kind b.kind) a b

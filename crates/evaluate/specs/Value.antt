-- The value of an expression at a row: numbers exactly, truth values as Kleene's logic has them, null where an operand is null.
use Rattle.std.specs.Prelude.{ℕ, ◌+ℤ◌, ◌-ℤ◌, ◌*ℤ◌, List, [], ◌∷◌, not, if◌then◌else◌, Option, Some, None, option_map, option_and_then, slice_index_or, Result, Ok, Err}
use Rattle.arrays.specs.Prelude.{FieldShape, Item, Row, is_null, item_of_bool, null, order}
use Rattle.arrays.specs.Item as item
use Rattle.kernels.specs.Prelude.{and_known, exact, is_outside, lifted, meets, or_known, truth_of}
use Rattle.kernels.specs.declared.comparison.CmpOp.{CmpOp}
use Rattle.kernels.specs.declared.comparison.CmpOp.TheVariants as cmp
use Rattle.query.specs.declared.expr.Op.{Op}
use Rattle.query.specs.declared.expr.Op.TheVariants as op
use Rattle.query.specs.declared.fault.QueryFault.{QueryFault}
use Rattle.query.specs.declared.sort.Sort.{Sort}
use Rattle.query.specs.declared.sort.Sort.TheVariants.{Int}
use Rattle.query.specs.Prelude.{Tree, Trees, checked, sort_at}
use Rattle.query.specs.Tree as tree

-- ---- operators

abbrev pub comparison : CmpOp → Item → Item → Item
comparison c = lifted (λ x y. item.boolean (meets c (order x y)))

abbrev pub of_one : Op → Item → Item
of_one op.Not x = item_of_bool (option_map not (truth_of x))
of_one op.IsNull x = item.boolean (is_null x)
of_one o x = null

abbrev pub of_two : Op → Item → Item → Item
of_two op.Add x y = lifted (exact ◌+ℤ◌) x y
of_two op.Sub x y = lifted (exact ◌-ℤ◌) x y
of_two op.Mul x y = lifted (exact ◌*ℤ◌) x y
of_two op.Eq x y = comparison cmp.Eq x y
of_two op.Ne x y = comparison cmp.Ne x y
of_two op.Lt x y = comparison cmp.Lt x y
of_two op.Le x y = comparison cmp.Le x y
of_two op.Gt x y = comparison cmp.Gt x y
of_two op.Ge x y = comparison cmp.Ge x y
of_two op.And x y = item_of_bool (and_known (truth_of x) (truth_of y))
of_two op.Or x y = item_of_bool (or_known (truth_of x) (truth_of y))
of_two o x y = null

-- An operator over the values of its operands, one or two of them.
abbrev pub of_operands : Op → List Item → Item
of_operands o [] = null
of_operands o (x ∷ []) = of_one o x
of_operands o (x ∷ y ∷ []) = of_two o x y
of_operands o (x ∷ y ∷ z ∷ xs) = null

-- ---- expressions

-- A value of the sort; none, where the sort is an integer type that doesn't have it.
abbrev pub bounded : Sort → Item → Option Item
bounded (Int t) x = if is_outside t x then None else Some x
bounded s x = Some x

abbrev pub bounded_in : Result Sort QueryFault → Item → Option Item
bounded_in (Ok s) x = bounded s x
bounded_in (Err fault) x = Some x

-- The value of an expression at a row of columns under the fields; none where it is bad: where any arithmetic part of it is outside
-- its type there, whatever stands round that part.
abbrev mutual
  pub value : List FieldShape → Row → Tree ℕ → Option Item
  value fields row (tree.column c) = Some (slice_index_or row c null)
  value fields row (tree.int z) = Some (item.int z)
  value fields row (tree.text s) = Some (item.text s)
  value fields row (tree.op o ts) = option_and_then (λ xs. bounded_in (checked (sort_at fields) (tree.op o ts)) (of_operands o xs)) (values fields row ts)

  pub values : List FieldShape → Row → Trees ℕ → Option (List Item)
  values fields row tree.none = Some []
  values fields row (tree.one t ts) = option_and_then (λ x. option_and_then (λ xs. Some (x ∷ xs)) (values fields row ts)) (value fields row t)

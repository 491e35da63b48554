-- Values in the making: what operators make of their operands, and what they stop with.
use Rattle.std.specs.Prelude.{◌≡◌, ℕ, ◌<◌, Bool, true, false, length, Option, Some, None, Result, Ok, Err, IfOk, IfErr, slice_index_or, ⊤}
use Rattle.arrays.specs.Prelude.{Batch, Item, Seen, item_at, null}
use Rattle.kernels.specs.declared.comparison.CmpOp.{CmpOp}
use Rattle.kernels.specs.declared.comparison.CmpOp.TheVariants as cmp
use Rattle.kernels.specs.declared.fault.KernelFault.{KernelFault}
use Rattle.kernels.specs.declared.fault.KernelFault.TheVariants as fault
use Rattle.kernels.specs.declared.fault.KernelFault.TheVariants.{LengthsDiffer, Overflow, TypesDiffer}
use Rattle.query.specs.declared.expr.Op.{Op}
use Rattle.query.specs.declared.expr.Op.TheVariants as op
use Rattle.query.specs.Prelude.{Tree, sort_at, sort_of_kind}
use Rattle.query.specs.declared.sort.Sort.{Sort}
use Rattle.evaluate.specs.Slices.{AreEnough, column_of, item_in, row_in, sort_in}
use Rattle.evaluate.specs.Value.{bounded, value}
use Rattle.evaluate.specs.declared.values.Operand.{Operand}
use Rattle.evaluate.specs.declared.values.Operand.TheVariants.{Made}
use Rattle.evaluate.specs.declared.values.Values.{Values}
use Rattle.evaluate.specs.declared.values.Values.TheVariants.{Column}
use Rattle.evaluate.specs.declared.stop.Stop.{Stop}
use Rattle.evaluate.specs.declared.stop.Stop.TheVariants.{Bad, NoMemory}

-- ---- expressions

-- Why there are none: one of these rows is bad, or a growth was refused.
abbrev pub StopsAt : Batch → ℕ → ℕ → Tree ℕ → Stop → Type 0
StopsAt b start n t (Bad row) = (row < n) × (value b.fields (row_in b start row) t ≡ None)
StopsAt b start n t NoMemory = ⊤

-- ---- operators

-- A value of the sort, where there is a sort.
abbrev pub bounded_by : Option Sort → Item → Option Item
bounded_by (Some s) x = bounded s x
bounded_by None x = Some x

-- The values at n rows of what an operator gives: its sort, and item by item what it makes.
pub record AreMade (s : Option Sort) (made : ℕ → Item) (n : ℕ) (v : Values) : Type 0 where
  pub sort : s ≡ Some (sort_in v)
  pub enough : AreEnough n v
  pub each : (i : ℕ) → i < n → bounded_by s (made i) ≡ Some (item_in v i)

abbrev pub StopsMaking : Option Sort → (ℕ → Item) → ℕ → Stop → Type 0
StopsMaking s made n (Bad row) = (row < n) × (bounded_by s (made row) ≡ None)
StopsMaking s made n NoMemory = ⊤

-- What a kernel's fault says of the rows, where types and lengths are right.
abbrev pub stop_of : KernelFault → Stop
stop_of (Overflow row) = Bad row
stop_of TypesDiffer = NoMemory
stop_of LengthsDiffer = NoMemory
stop_of fault.NoMemory = NoMemory

-- A fault of the operands' types or lengths, and of no row.
abbrev pub is_of_operands : KernelFault → Bool
is_of_operands (Overflow row) = false
is_of_operands TypesDiffer = true
is_of_operands LengthsDiffer = true
is_of_operands fault.NoMemory = false

-- What a kernel gives, as values or as why there are none.
abbrev pub values_of : Result Seen KernelFault → Result Values Stop
values_of (Ok a) = Ok (Column (Made a))
values_of (Err e) = Err (stop_of e)

-- What a kernel gives of n rows of operands of the right types and lengths: item by item what is made of them, or a fault of the rows alone.
pub record Gives (s : Option Sort) (made : ℕ → Item) (n : ℕ) (k : Result Seen KernelFault) : Type 0 where
  pub fits : IfErr k (λ e. is_of_operands e ≡ false)
  pub ok : IfOk k (λ a. AreMade s made n (Column (Made a)))
  pub err : IfErr k (λ e. StopsMaking s made n (stop_of e))

-- ---- comparisons

-- The comparison that an operator is.
abbrev pub comparison_of : Op → Option CmpOp
comparison_of op.Eq = Some cmp.Eq
comparison_of op.Ne = Some cmp.Ne
comparison_of op.Lt = Some cmp.Lt
comparison_of op.Le = Some cmp.Le
comparison_of op.Gt = Some cmp.Gt
comparison_of op.Ge = Some cmp.Ge
comparison_of o = None

-- The same comparison of the second with the first.
abbrev pub turned : CmpOp → CmpOp
turned cmp.Eq = cmp.Eq
turned cmp.Ne = cmp.Ne
turned cmp.Lt = cmp.Gt
turned cmp.Le = cmp.Ge
turned cmp.Gt = cmp.Lt
turned cmp.Ge = cmp.Le

-- f of the first and the second, or of the second and the first.
abbrev pub in_order : {A B : Type 0} → Bool → (A → A → B) → A → A → B
in_order true f x y = f x y
in_order false f x y = f y x

-- ---- columns of a batch

-- The slots of the column at the place, n of them from the start on.
pub record IsColumn (b : Batch) (start n place : ℕ) (o : Operand) : Type 0 where
  pub sort : sort_at b.fields place ≡ Ok (sort_of_kind (column_of o).kind)
  pub len : length (column_of o).items ≡ n
  pub each : (i : ℕ) → i < n → slice_index_or (row_in b start i) place null ≡ item_at (column_of o).items i

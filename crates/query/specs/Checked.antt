-- The walk through an expression that gives each part its sort: operands before their operator, from left to right.
use Rattle.std.specs.Prelude.{List, [], ◌∷◌, Option, None, Result, Ok, Err}
use Rattle.std.specs.Option.{ok_or}
use Rattle.query.specs.declared.expr.Op.{Op}
use Rattle.query.specs.declared.fault.QueryFault.{QueryFault}
use Rattle.query.specs.declared.fault.QueryFault.TheVariants.{WrongKind}
use Rattle.query.specs.declared.sort.Sort.{Sort}
use Rattle.query.specs.declared.sort.Sort.TheVariants.{Literal, Text}
use Rattle.query.specs.Sorts.{sort_of_one, sort_of_two}
use Rattle.query.specs.Tree.{Tree, column, int, text, op, Trees, none, one}

abbrev pub and_then : {A B : Type 0} → Result A QueryFault → (A → Result B QueryFault) → Result B QueryFault
and_then (Ok x) f = f x
and_then (Err e) f = Err e

-- The sort of an operator over operands of these sorts, one or two of them.
abbrev pub sort_of_operator : Op → List Sort → Option Sort
sort_of_operator o [] = None
sort_of_operator o (s ∷ []) = sort_of_one o s
sort_of_operator o (s ∷ t ∷ []) = sort_of_two o s t
sort_of_operator o (s ∷ t ∷ u ∷ ss) = None

-- The sort of an expression, or the first fault that the walk meets. What calls a column gives its sort, or the fault.
abbrev mutual
  pub checked : {C : Type 0} → (C → Result Sort QueryFault) → Tree C → Result Sort QueryFault
  checked sort_at (column c) = sort_at c
  checked sort_at (int z) = Ok (Literal z)
  checked sort_at (text s) = Ok Text
  checked sort_at (op o ts) = and_then (all_checked sort_at ts) (λ sorts. ok_or (sort_of_operator o sorts) WrongKind)

  -- The sorts of operands, or the first fault.
  pub all_checked : {C : Type 0} → (C → Result Sort QueryFault) → Trees C → Result (List Sort) QueryFault
  all_checked sort_at none = Ok []
  all_checked sort_at (one t ts) = and_then (checked sort_at t) (λ s. and_then (all_checked sort_at ts) (λ ss. Ok (s ∷ ss)))

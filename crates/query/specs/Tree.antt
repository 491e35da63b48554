-- Expressions as plain values, whose columns are called by anything.
use Rattle.std.specs.Prelude.{ℕ, suc, ℤ, max, List, [], ◌∷◌, string_bytes}
use Rattle.query.specs.declared.expr.Op.{Op}
use Rattle.query.specs.declared.expr.Expr.{Expr, fold-Expr}
use Rattle.query.specs.declared.expr.Expr.TheOpen.{Expr-F}

mutual
  -- An expression over columns that are called by a C.
  pub data Tree (C : Type 0) : Type 0 where
    column : C → Tree C
    int : ℤ → Tree C
    text : List ℕ → Tree C
    op : Op → Trees C → Tree C

  -- Operands, from left to right.
  pub data Trees (C : Type 0) : Type 0 where
    none : Trees C
    one : Tree C → Trees C → Trees C

abbrev pub trees : {C : Type 0} → List (Tree C) → Trees C
trees [] = none
trees (t ∷ ts) = one t (trees ts)

-- One level of an expression, with trees in place of its operands.
abbrev pub tree_step : {C : Type 0} → Expr-F C (Tree C) → Tree C
tree_step (Expr-F.Column c) = column c
tree_step (Expr-F.Int z) = int z
tree_step (Expr-F.Text s) = text (string_bytes s)
tree_step (Expr-F.Op o operands) = op o (trees operands.items)

abbrev pub tree_of : {C : Type 0} → Expr C → Tree C
tree_of {C} = fold-Expr C (Tree C) tree_step

-- ---- how many operators stand in one another

-- How many nodes the longest path from the outermost one has.
abbrev mutual
  pub depth : {C : Type 0} → Tree C → ℕ
  depth (column c) = 1
  depth (int z) = 1
  depth (text s) = 1
  depth (op o ts) = suc (deepest ts)

  pub deepest : {C : Type 0} → Trees C → ℕ
  deepest none = 0
  deepest (one t ts) = max (depth t) (deepest ts)

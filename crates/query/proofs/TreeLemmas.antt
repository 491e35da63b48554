-- The tree of an operator is that of its operands.
use Rattle.std.proofs.Common.{◌≡◌, map, rules}
use Rattle.std.specs.declared.vec.Vec.{Vec}
use Rattle.std.specs.declared.alloc.Global.{Global}
use Rattle.query.specs.declared.expr.Op.{Op}
use Rattle.query.specs.declared.expr.Expr.{Expr, fold_out-Expr}
use Rattle.query.specs.declared.expr.Expr.TheViews as views
use Rattle.query.specs.declared.expr.Expr.TheViews.{the_lemmas}
use Rattle.query.specs.Tree.{op, tree_of, trees}

pub tree_of-Op : {C : Type 0} (o : Op) (v : Vec (Expr C) Global) → tree_of (views.Op o v) ≡ op o (trees (map tree_of v.items))
tree_of-Op {C} o v = search (rules, the_lemmas, fold_out-Expr)

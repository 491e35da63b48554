-- Expressions whose columns are called by other names.
use Rattle.std.proofs.Common.{◌≡◌, ◌∙◌, suc, max, List, [], ◌∷◌, map, Result, Ok, ap, sym, refl}
use Rattle.std.specs.Option.{ok_or}
use Rattle.std.specs.declared.vec.Vec.{Vec}
use Rattle.std.specs.declared.alloc.Global.{Global}
use Rattle.query.specs.declared.expr.Expr.{Expr}
use Rattle.query.specs.declared.expr.Expr.TheViews as views
use Rattle.query.specs.declared.expr.Op.{Op}
use Rattle.query.specs.declared.fault.QueryFault.{QueryFault}
use Rattle.query.specs.declared.fault.QueryFault.TheVariants.{WrongKind}
use Rattle.query.specs.declared.sort.Sort.{Sort}
use Rattle.query.specs.Prelude.{Tree, Trees, all_checked, all_renamed, and_then, checked, column, deepest, depth, int, none, one, op, renamed, sort_of_operator, text, tree_of, trees}
use Rattle.query.proofs.TreeLemmas.{tree_of-Op}

pub all_renamed-trees : {C D : Type 0} (f : C → D) (ts : List (Tree C)) → all_renamed f (trees ts) ≡ trees (map (renamed f) ts)
all_renamed-trees f [] = refl
all_renamed-trees f (t ∷ ts) = ap (one (renamed f t)) (all_renamed-trees f ts)

-- an operator whose operands are renamed
pub renamed-Op : {C D : Type 0} (f : C → D) (o : Op) (v : Vec (Expr C) Global) (w : Vec (Expr D) Global) → map tree_of w.items ≡ map (renamed f) (map tree_of v.items)
    → tree_of (views.Op o w) ≡ renamed f (tree_of (views.Op o v))
renamed-Op f o v w h =
    tree_of-Op o w
    ∙ ap (λ ts. op o (trees ts)) h
    ∙ ap (op o) (sym (all_renamed-trees f (map tree_of v.items)))
    ∙ ap (renamed f) (sym (tree_of-Op o v))

-- ---- what is the same under other names

mutual
  pub renamed-renamed : {B C D : Type 0} (g : C → D) (f : B → C) (t : Tree B) → renamed g (renamed f t) ≡ renamed (λ c. g (f c)) t
  renamed-renamed g f (column c) = refl
  renamed-renamed g f (int z) = refl
  renamed-renamed g f (text s) = refl
  renamed-renamed g f (op o ts) = ap (op o) (all_renamed-all_renamed g f ts)

  pub all_renamed-all_renamed : {B C D : Type 0} (g : C → D) (f : B → C) (ts : Trees B) → all_renamed g (all_renamed f ts) ≡ all_renamed (λ c. g (f c)) ts
  all_renamed-all_renamed g f none = refl
  all_renamed-all_renamed g f (one t ts) = ap (λ u. one u (all_renamed g (all_renamed f ts))) (renamed-renamed g f t) ∙ ap (one (renamed (λ c. g (f c)) t)) (all_renamed-all_renamed g f ts)

mutual
  pub depth-renamed : {C D : Type 0} (f : C → D) (t : Tree C) → depth (renamed f t) ≡ depth t
  depth-renamed f (column c) = refl
  depth-renamed f (int z) = refl
  depth-renamed f (text s) = refl
  depth-renamed f (op o ts) = ap suc (deepest-renamed f ts)

  pub deepest-renamed : {C D : Type 0} (f : C → D) (ts : Trees C) → deepest (all_renamed f ts) ≡ deepest ts
  deepest-renamed f none = refl
  deepest-renamed f (one t ts) = ap (λ d. max d (deepest (all_renamed f ts))) (depth-renamed f t) ∙ ap (max (depth t)) (deepest-renamed f ts)

mutual
  pub checked-renamed : {C D : Type 0} (sort_in : D → Result Sort QueryFault) (f : C → D) (t : Tree C) → checked sort_in (renamed f t) ≡ checked (λ c. sort_in (f c)) t
  checked-renamed sort_in f (column c) = refl
  checked-renamed sort_in f (int z) = refl
  checked-renamed sort_in f (text s) = refl
  checked-renamed sort_in f (op o ts) = ap (λ r. and_then r (λ sorts. ok_or (sort_of_operator o sorts) WrongKind)) (all_checked-renamed sort_in f ts)

  pub all_checked-renamed : {C D : Type 0} (sort_in : D → Result Sort QueryFault) (f : C → D) (ts : Trees C) → all_checked sort_in (all_renamed f ts) ≡ all_checked (λ c. sort_in (f c)) ts
  all_checked-renamed sort_in f none = refl
  all_checked-renamed sort_in f (one t ts) =
      ap (λ r. and_then r (λ s. and_then (all_checked sort_in (all_renamed f ts)) (λ ss. Ok (s ∷ ss)))) (checked-renamed sort_in f t)
      ∙ ap (λ r. and_then (checked (λ c. sort_in (f c)) t) (λ s. and_then r (λ ss. Ok (s ∷ ss)))) (all_checked-renamed sort_in f ts)

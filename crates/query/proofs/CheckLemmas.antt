-- The walk through operands, one after the other.
use Rattle.std.proofs.Common.{◌≡◌, ◌≢◌, List, [], ◌∷◌, map, length, Result, Ok, Err, None, refl}
use Rattle.std.specs.Option.{ok_or}
use Rattle.std.specs.Result.{result_err}
use Rattle.query.specs.declared.expr.Expr.{Expr}
use Rattle.query.specs.declared.expr.Op.{Op}
use Rattle.query.specs.declared.fault.QueryFault.{QueryFault}
use Rattle.query.specs.declared.fault.QueryFault.TheVariants.{WrongKind}
use Rattle.query.specs.declared.sort.Sort.{Sort}
use Rattle.query.specs.Prelude.{all_checked, and_then, checked, sort_of_operator, tree_of, trees}

-- an operand without a fault adds none
pub err-more : (rest : Result (List Sort) QueryFault) (s : Sort) → result_err (and_then rest (λ ss. Ok (s ∷ ss))) ≡ result_err rest
err-more (Ok ss) s = refl
err-more (Err e) s = refl

three : (o : Op) (r s t : Result Sort QueryFault) (rest : Result (List Sort) QueryFault)
    → None ≡ result_err (and_then r (λ a. and_then (and_then s (λ b. and_then (and_then t (λ c. and_then rest (λ ss. Ok (c ∷ ss)))) (λ ss. Ok (b ∷ ss)))) (λ ss. Ok (a ∷ ss))))
    → and_then (and_then r (λ a. and_then (and_then s (λ b. and_then (and_then t (λ c. and_then rest (λ ss. Ok (c ∷ ss)))) (λ ss. Ok (b ∷ ss)))) (λ ss. Ok (a ∷ ss)))) (λ sorts. ok_or (sort_of_operator o sorts) WrongKind) ≡ Err WrongKind
three o (Err e) s t rest h = cc
three o (Ok a) (Err e) t rest h = cc
three o (Ok a) (Ok b) (Err e) rest h = cc
three o (Ok a) (Ok b) (Ok c) (Err e) h = cc
three o (Ok a) (Ok b) (Ok c) (Ok ss) h = refl

-- an operator takes one operand or two
pub wrong_count : {C : Type 0} (sort_at : C → Result Sort QueryFault) (o : Op) (xs : List (Expr C)) → length xs ≢ 1 → length xs ≢ 2
    → None ≡ result_err (all_checked sort_at (trees (map tree_of xs)))
    → and_then (all_checked sort_at (trees (map tree_of xs))) (λ sorts. ok_or (sort_of_operator o sorts) WrongKind) ≡ Err WrongKind
wrong_count sort_at o [] one two h = refl
wrong_count sort_at o (x ∷ []) one two h = absurd (one refl)
wrong_count sort_at o (x ∷ y ∷ []) one two h = absurd (two refl)
wrong_count sort_at o (x ∷ y ∷ z ∷ xs) one two h = three o (checked sort_at (tree_of x)) (checked sort_at (tree_of y)) (checked sort_at (tree_of z)) (all_checked sort_at (trees (map tree_of xs))) h

pub ruleset operands = (err-more, wrong_count)

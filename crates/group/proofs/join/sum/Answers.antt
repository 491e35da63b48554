use Rattle.std.proofs.Common.{◌≡◌, ◌∙◌, ◌≤◌, ◌+◌, ◌*◌, ◌^◌, ℤ, pos, neg_ℤ, ◌+ℤ◌, ◌≤ℤ◌, Some, FitsSigned, to_z, of_z, ap, sym, subst, arith}
use Rattle.std.specs.Int.{w128}
use Rattle.std.proofs.lemmas.Int.{ints, to_z-of_z}
use Rattle.group.specs.Joined.{both_sums}
use Rattle.group.specs.declared.stats.ColumnStats.{ColumnStats}
use Rattle.group.proofs.join.sum.Goals as goal

module _ (a b : ColumnStats) (x y : ℤ) (few : a.rows + b.rows ≤ 2 ^ 40) (x_is : a.sum ≡ Some x) (y_is : b.sum ≡ Some y) where
  same_x : to_z w128 (of_z w128 x) ≡ x
  same_x =
      let low = a.low x x_is in
      let high = a.high x x_is in
      let fits : FitsSigned w128 x = omega (arith, ints, low, high, few) in
      to_z-of_z w128 x fits

  same_y : to_z w128 (of_z w128 y) ≡ y
  same_y =
      let low = b.low y y_is in
      let high = b.high y y_is in
      let fits : FitsSigned w128 y = omega (arith, ints, low, high, few) in
      to_z-of_z w128 y fits

  sum_low : neg_ℤ (pos (2 ^ 64 * (a.rows + b.rows))) ≤ℤ (x +ℤ y)
  sum_low =
      let low = a.low x x_is in
      let more = b.low y y_is in
      omega (arith, ints, low, more)

  sum_high : (x +ℤ y) ≤ℤ pos (2 ^ 64 * (a.rows + b.rows))
  sum_high =
      let high = a.high x x_is in
      let more = b.high y y_is in
      omega (arith, ints, high, more)

  sum_fits : FitsSigned w128 (x +ℤ y)
  sum_fits = omega (arith, ints, sum_low, sum_high, few)

  handed_fits : FitsSigned w128 (to_z w128 (of_z w128 x) +ℤ to_z w128 (of_z w128 y))
  handed_fits = subst (FitsSigned w128) (sym (λ j. same_x j +ℤ same_y j)) sum_fits

  handed : to_z w128 (of_z w128 (to_z w128 (of_z w128 x) +ℤ to_z w128 (of_z w128 y))) ≡ x +ℤ y
  handed = (λ j. to_z w128 (of_z w128 (same_x j +ℤ same_y j))) ∙ to_z-of_z w128 (x +ℤ y) sum_fits

pub overflow_add-result : goal.overflow_add-result
overflow_add-result c = handed_fits c.args.a.now c.args.b.now c.in-Some-Some.x c.in-Some-Some.y c.requires c.in-Some-Some.is-0 c.in-Some-Some.is-1

pub returns-in-Some-Some-clause-value : goal.returns-in-Some-Some-clause-value
returns-in-Some-Some-clause-value c =
    ap Some (handed c.args.a.now c.args.b.now c.in-Some-Some.x c.in-Some-Some.y c.requires c.in-Some-Some.is-0 c.in-Some-Some.is-1)
    ∙ sym (λ j. both_sums (c.in-Some-Some.is-0 j) (c.in-Some-Some.is-1 j))

pub returns-in-Some-Some-clause-low : goal.returns-in-Some-Some-clause-low
returns-in-Some-Some-clause-low c = λ z is.
    let sum = handed c.args.a.now c.args.b.now c.in-Some-Some.x c.in-Some-Some.y c.requires c.in-Some-Some.is-0 c.in-Some-Some.is-1 in
    let z_is : c.in-Some-Some.x +ℤ c.in-Some-Some.y ≡ z = cc in
    subst (λ m. neg_ℤ (pos (2 ^ 64 * (c.args.a.now.rows + c.args.b.now.rows))) ≤ℤ m) z_is
    (sum_low c.args.a.now c.args.b.now c.in-Some-Some.x c.in-Some-Some.y c.requires c.in-Some-Some.is-0 c.in-Some-Some.is-1)

pub returns-in-Some-Some-clause-high : goal.returns-in-Some-Some-clause-high
returns-in-Some-Some-clause-high c = λ z is.
    let sum = handed c.args.a.now c.args.b.now c.in-Some-Some.x c.in-Some-Some.y c.requires c.in-Some-Some.is-0 c.in-Some-Some.is-1 in
    let z_is : c.in-Some-Some.x +ℤ c.in-Some-Some.y ≡ z = cc in
    subst (λ m. m ≤ℤ pos (2 ^ 64 * (c.args.a.now.rows + c.args.b.now.rows))) z_is
    (sum_high c.args.a.now c.args.b.now c.in-Some-Some.x c.in-Some-Some.y c.requires c.in-Some-Some.is-0 c.in-Some-Some.is-1)

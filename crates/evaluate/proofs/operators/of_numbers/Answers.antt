use Rattle.std.proofs.Common.{◌≡◌, ◌∙◌, IfErr, IfOk, false, length, replicate, subst}
use Rattle.std.specs.Int.{w128}
use Rattle.std.proofs.lemmas.Int.{to_z-of_z}
use Rattle.arrays.specs.Kind as kind
use Rattle.arrays.specs.Prelude.{int, int64, item_at, shown}
use Rattle.query.specs.Sorts.{sort_of_kind, sort_of_two}
use Rattle.query.specs.declared.sort.Sort.TheVariants.{Literal}
use Rattle.evaluate.specs.Prelude.{AreMade, StopsMaking, in_order, of_two}
use Rattle.evaluate.proofs.BesideLemmas.{made_on, numbers_made, numbers_stop, stopped_on}
use Rattle.evaluate.proofs.operators.of_numbers.Goals as goal

pub returns-clause-ok : goal.returns-clause-ok
returns-clause-ok c =
    let o = c.args.op in
    let x = c.args.left in
    let z = c.args.right in
    let n = c.args.len in
    let v = c.view.result in
    let r = c.of_two.result in
    let is : v ≡ shown (kind.int int64) (replicate n (int x)) = c.view.ensures ∙ c.in_ok-column.ensures ∙ (λ j. shown (kind.int int64) (replicate n (int (to_z-of_z w128 x c.ranges.left j)))) in
    let passed = subst (λ w. IfOk r (AreMade (in_order false (sort_of_two o) (Literal w) (sort_of_kind v.kind)) (λ i. in_order false (of_two o) (int w) (item_at v.items i)) (length v.items))) (to_z-of_z w128 z c.ranges.right) c.of_two.ensures.ok in
    made_on r (AreMade (in_order false (sort_of_two o) (Literal z) (sort_of_kind v.kind)) (λ i. in_order false (of_two o) (int z) (item_at v.items i)) (length v.items)) (AreMade (sort_of_two o (Literal x) (Literal z)) (λ i. of_two o (int x) (int z)) n)
    (numbers_made o x z n v c.requires.sort is) passed

pub returns-clause-err : goal.returns-clause-err
returns-clause-err c =
    let o = c.args.op in
    let x = c.args.left in
    let z = c.args.right in
    let n = c.args.len in
    let v = c.view.result in
    let r = c.of_two.result in
    let is : v ≡ shown (kind.int int64) (replicate n (int x)) = c.view.ensures ∙ c.in_ok-column.ensures ∙ (λ j. shown (kind.int int64) (replicate n (int (to_z-of_z w128 x c.ranges.left j)))) in
    let passed = subst (λ w. IfErr r (StopsMaking (in_order false (sort_of_two o) (Literal w) (sort_of_kind v.kind)) (λ i. in_order false (of_two o) (int w) (item_at v.items i)) (length v.items))) (to_z-of_z w128 z c.ranges.right) c.of_two.ensures.err in
    stopped_on r (StopsMaking (in_order false (sort_of_two o) (Literal z) (sort_of_kind v.kind)) (λ i. in_order false (of_two o) (int z) (item_at v.items i)) (length v.items)) (StopsMaking (sort_of_two o (Literal x) (Literal z)) (λ i. of_two o (int x) (int z)) n)
    (numbers_stop o x z n v c.requires.sort is) passed

use Rattle.std.proofs.Common.{◌≡◌, IfOk, Some, length, subst, sym}
use Rattle.std.specs.Int.{w128}
use Rattle.std.proofs.lemmas.Int.{to_z-of_z}
use Rattle.arrays.specs.Prelude.{int, item_at}
use Rattle.query.specs.Sorts.{sort_of_kind, sort_of_two}
use Rattle.query.specs.declared.sort.Sort.TheVariants.{Literal, Truth}
use Rattle.evaluate.specs.Prelude.{AreMade, StopsMaking, in_order, of_two}
use Rattle.evaluate.specs.declared.stop.Stop.TheVariants as stops
use Rattle.evaluate.proofs.BesideLemmas.{compared_sort, compares, stopped_on}
use Rattle.evaluate.proofs.number.of_two.Goals as goal

pub returns-in_default : goal.returns-in_default
returns-in_default c =
    let o = c.args.op in
    let a = c.args.column.now in
    let z = c.args.number in
    let first = c.args.is_first in
    let n = length a.items in
    let r = c.compare.result in
    let named = compares first o a.kind z c.requires.sort c.in_default.not-Add c.in_default.not-Sub c.in_default.not-Mul in
    let s = in_order first (sort_of_two o) (Literal z) (sort_of_kind a.kind) in
    let passed = subst (λ w. IfOk r (AreMade (Some Truth) (λ i. in_order first (of_two o) (int w) (item_at a.items i)) n)) (to_z-of_z w128 z c.ranges.number) c.compare.ensures.ok in
    record {
      ok = subst (λ t. IfOk r (AreMade t (λ i. in_order first (of_two o) (int z) (item_at a.items i)) n)) (sym (compared_sort first o a.kind z named c.requires.sort)) passed;
      err =
          stopped_on r (λ e. e ≡ stops.NoMemory) (StopsMaking s (λ i. in_order first (of_two o) (int z) (item_at a.items i)) n)
          (λ e is. subst (StopsMaking s (λ i. in_order first (of_two o) (int z) (item_at a.items i)) n) (sym is) tt) c.compare.ensures.err;
    }

use Rattle.std.proofs.Common.{◌∙◌, None, refl, subst, sym}
use Rattle.std.specs.Int.{w128}
use Rattle.std.proofs.lemmas.Int.{to_z-of_z}
use Rattle.arrays.specs.Prelude.{IsOfType, number_at}
use Rattle.kernels.specs.Beside.{number_beside}
use Rattle.arrays.proofs.RangeLemmas.{IsOfType-from_test}
use Rattle.kernels.proofs.BesideLemmas.{beside_numbers, beside_size}
use Rattle.kernels.proofs.ComparisonLemmas.{numbers-compared}
use Rattle.kernels.proofs.ResultLemmas.{column_numbers}
use Rattle.kernels.proofs.comparison.compare_each.Goals as goal

pub narrow-requires : goal.narrow-requires
narrow-requires g c =
    subst (IsOfType g.T.Integer.ty) (sym (to_z-of_z w128 c.args.number c.ranges.number)) (IsOfType-from_test g.T.Integer.ty c.args.number c.requires.has)

pub returns : goal.returns
returns g c =
    let ty = g.T.Integer.ty in
    let a = c.args.a.now in
    let z = c.args.number in
    let x = c.ints.result.values.now in
    let present = g.T.Integer.value c.narrow.result in
    let same = numbers-compared c.args.op c.of.result c.of.ensures a (number_beside a z) (sym (beside_size a z)) c.of-x.result.bits None c.slots-2.result c.of-x.ensures.bits refl
    c.slots-2.ensures.count (number_at ty x) (λ j. present) (column_numbers ty x a c.ints.ensures.values) (beside_numbers a z present (c.narrow.ensures ∙ to_z-of_z w128 z c.ranges.number)) in
    rw (← same) c.array_of.ensures

use Rattle.arrays.specs.Prelude.{number_at}
use Rattle.kernels.proofs.ComparisonLemmas.{numbers-compared}
use Rattle.kernels.proofs.ResultLemmas.{column_numbers}
use Rattle.kernels.proofs.comparison.compare_numbers.Goals as goal

pub returns : goal.returns
returns g c =
    let ty = g.T.Integer.ty in
    let a = c.args.a.now in
    let b = c.args.b.now in
    let x = c.ints.result.values.now in
    let y = c.ints-2.result.values.now in
    let same = numbers-compared c.args.op c.of.result c.of.ensures a b c.requires.lengths c.of-x.result.bits c.of-y.result.bits c.slots.result c.of-x.ensures.bits c.of-y.ensures.bits
    c.slots.ensures.count (number_at ty x) (number_at ty y) (column_numbers ty x a c.ints.ensures.values) (column_numbers ty y b c.ints-2.ensures.values) in
    rw (← same) c.array_of.ensures

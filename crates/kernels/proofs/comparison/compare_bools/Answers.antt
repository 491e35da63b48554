use Rattle.kernels.proofs.ComparisonLemmas.{bools-compared}
use Rattle.kernels.proofs.comparison.compare_bools.Goals as goal

pub returns : goal.returns
returns c =
    let same = bools-compared c.args.op c.of.result c.of.ensures c.args.a.now c.args.b.now c.requires.lengths c.of-x.result.bits c.of-y.result.bits c.slots.result c.of-x.ensures.bits c.of-y.ensures.bits
    c.slots.ensures.count c.bool_bits.result c.bool_bits-2.result c.bool_bits.ensures c.bool_bits-2.ensures in
    rw (← same) c.array_of.ensures

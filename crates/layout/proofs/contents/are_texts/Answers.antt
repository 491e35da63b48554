use Rattle.std.proofs.Common.{◌+◌, arith}
use Rattle.layout.proofs.RowLemmas.{text-between}
use Rattle.layout.proofs.contents.are_texts.Goals as goal

pub returns : goal.returns
returns c = λ reported j below.
    text-between c.args.width c.args.offsets.now c.args.bytes.now j c.in-Ok.ensures.1 (c.loop-edge.invariant j (omega arith)) (c.loop-edge.invariant (j + 1) (omega arith))

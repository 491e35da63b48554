use Rattle.std.proofs.Common.{◌∙◌, arith}
use Rattle.select.proofs.OnesLemmas.{more_bits, next_left}
use Rattle.select.proofs.trues.Trues.find_word.Goals as goal

pub overflow_add-place : goal.overflow_add-place
overflow_add-place c =
    let l = c.loop-place.place in
    omega (arith, more_bits c.args.self.now.bits l.at l.ones c.args.place.now.at c.args.place.now.ones c.loop-place.invariant c.requires c.loop-place-test.true, c.args.self.now.short)

pub loop-place-preserved : goal.loop-place-preserved
loop-place-preserved c =
    let l = c.loop-place.place in
    next_left c.args.self.now.bits l.at l.ones c.word-place.result c.loop-place-test.true c.word-place.ensures ∙ c.loop-place.invariant

pub loop-place-smaller : goal.loop-place-smaller
loop-place-smaller c =
    let l = c.loop-place.place in
    omega (arith, more_bits c.args.self.now.bits l.at l.ones c.args.place.now.at c.args.place.now.ones c.loop-place.invariant c.requires c.loop-place-test.true)

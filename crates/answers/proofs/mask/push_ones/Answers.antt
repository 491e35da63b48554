use Rattle.std.proofs.Common.{◌∙◌, ◌+◌, ◌++◌, ap, append-nil, arith, length, map, sym, w64}
use Rattle.std.specs.Int.{trailing_zeros}
use Rattle.answers.proofs.MaskLemmas.{first_one, no_ones, one_put, one_reported}
use Rattle.answers.proofs.mask.push_ones.Goals as goal

pub loop-left-preserved : goal.loop-left-preserved
loop-left-preserved c =
    let left = c.loop-left.left in
    one_put c.args.first left (trailing_zeros w64 left) c.loop-left.places.items c.push.new.self.items (first_one left (omega (arith, c.loop-left-test.true)) (omega arith)) c.in_ok-push.ensures.items
    ∙ c.loop-left.invariant

pub loop-left-smaller : goal.loop-left-smaller
loop-left-smaller c =
    let left = c.loop-left.left in
    omega (arith, ap length (one_reported left (trailing_zeros w64 left) (first_one left (omega (arith, c.loop-left-test.true)) (omega arith))))

pub returns : goal.returns
returns c =
    sym (append-nil c.loop-left.places.items)
    ∙ ap (λ l. c.loop-left.places.items ++ map (λ i. c.args.first + i) l) (sym (no_ones c.loop-left.left (omega (arith, c.loop-left-test.false))))
    ∙ c.loop-left.invariant

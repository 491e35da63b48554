use Rattle.std.proofs.Common.{◌+◌, ℕ, false, arith, get_or, w64}
use Rattle.select.specs.Joined.{joined_valid}
use Rattle.select.proofs.WordLemmas.{bits-reported}
use Rattle.select.proofs.joining.valid.JoinedSlots.bit_by_bit.Goals as goal

pub loop-j-preserved : goal.loop-j-preserved
loop-j-preserved c =
    let f = λ (k : ℕ). get_or (joined_valid c.args.self.now.views.now) (c.args.i + k) false in
    bits-reported w64 f c.loop-j.word c.loop-j.j c.from.result _ (omega arith) c.from.ensures c.at.ensures c.loop-j.invariant

use Rattle.std.proofs.Common.{◌+◌, ◌<◌, ◌∙◌, false, length, get_or, sym, ap, arith}
use Rattle.colbits.specs.Bit.{bit}
use Rattle.colbits.proofs.BitLemmas.{length-bits, get_or-bits}
use Rattle.colbits.proofs.bits.Bits.whole_lanes.Goals as goal

pub lanes_from-requires-clause-within : goal.lanes_from-requires-clause-within
lanes_from-requires-clause-within c =
    let len = ap length (sym c.self.view_is) ∙ length-bits _ _ _ in
    omega (arith, len)

pub returns : goal.returns
returns c = λ j h.
    let s = c.self.inside in
    let len = ap length (sym c.self.view_is) ∙ length-bits _ _ _ in
    let i = c.args.i in
    let within : i + j < s.len = omega (arith, len) in
    c.lanes_from.ensures j h
    ∙ ap (bit s.bytes.now) (omega arith)
    ∙ sym (get_or-bits s.bytes.now s.shift s.len (i + j) false within)
    ∙ ap (λ b. get_or b (i + j) false) c.self.view_is

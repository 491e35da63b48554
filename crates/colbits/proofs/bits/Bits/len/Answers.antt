use Rattle.std.proofs.Common.{◌∙◌, sym, ap, length}
use Rattle.colbits.proofs.BitLemmas.{length-bits}
use Rattle.colbits.proofs.bits.Bits.len.Goals as goal

pub returns : goal.returns
returns c = sym (ap length (sym c.self.view_is) ∙ length-bits _ _ _)

use Rattle.std.proofs.Common.{◌∙◌, length, ap, sym, subst}
use Rattle.colbits.specs.Prelude.{IsBitmap, bits}
use Rattle.colbits.proofs.BitLemmas.{length-bits}
use Rattle.colbits.proofs.bitmap.BitmapBuf.into_buffer.Goals as goal

pub returns : goal.returns
returns c =
    let b = c.self.inside in
    let len = sym (ap length (sym c.self.view_is) ∙ length-bits _ _ _) in
    record {
      bitmap = subst (IsBitmap b.buffer) len c.self.invariant;
      values_are = ap (bits b.buffer 0) (sym len) ∙ c.self.view_is;
    }

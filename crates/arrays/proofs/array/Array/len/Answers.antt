use Rattle.std.proofs.Common.{◌∙◌, length, ap, sym}
use Rattle.layout.specs.Seen.{Seen}
use Rattle.arrays.specs.declared.array.parts.Parts.{Parts}
use Rattle.arrays.proofs.PartsLemmas.{length-array}
use Rattle.arrays.proofs.array.Array.len.Goals as goal

pub returns : goal.returns
returns c = ap (λ (p : Parts). p.length) c.deref.ensures ∙ sym (length-array c.self.inside) ∙ ap (λ (s : Seen). length s.items) c.self.view_is

use Rattle.std.proofs.Common.{◌∙◌, ap, sym}
use Rattle.arrays.specs.Prelude.{SizedColumn, total}
use Rattle.arrays.proofs.LaidLemmas.{total-fresh}
use Rattle.arrays.proofs.builder.offsets.OffsetsBuilder.total.Goals as goal

pub returns : goal.returns
returns c =
    let s = c.self.inside in
    sym (total-fresh s.width s.valid s.offsets.items s.total c.self.invariant) ∙ ap (λ (q : SizedColumn). total q.lengths) c.self.view_is

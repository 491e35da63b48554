use Rattle.std.proofs.Common.{◌∙◌, ap, sym}
use Rattle.arrays.specs.Prelude.{SizedColumn, total}
use Rattle.arrays.proofs.LaidLemmas.{total-fresh}
use Rattle.arrays.proofs.builder.offsets.OffsetsBuilder.push_all.Goals as goal

pub push_bytes-requires-clause-goes_on : goal.push_bytes-requires-clause-goes_on
push_bytes-requires-clause-goes_on c =
    let s = c.self.inside in
    sym c.get.ensures
    ∙ c.if-get-self.true
    ∙ sym (total-fresh s.width s.valid s.offsets.items s.total c.self.invariant)
    ∙ ap (λ (q : SizedColumn). total q.lengths) c.self.view_is

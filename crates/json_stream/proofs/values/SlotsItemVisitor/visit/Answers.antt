use Rattle.std.proofs.Common.{◌∙◌, ap, ap₂}
use Rattle.json_stream.specs.Slots.{spelling_at}
use Rattle.json_stream.proofs.SlotLemmas.{slot_taken}
use Rattle.json_stream.proofs.values.SlotsItemVisitor.visit.Goals as goal

pub returns-in-Ok-clause-ok : goal.returns-in-Ok-clause-ok
returns-in-Ok-clause-ok g c =
    let slots = c.args.self.now in
    let read = c.in-Ok.ensures.ok in (
      read.0,
      read.1,
      λ first ds h. (
        c.in-Ok.ensures.kind ∙ h.0,
        c.in-Ok.ensures.coding ∙ h.1,
        h.2,
        slot_taken _ _ slots.validity.now first.validity.now ds read.0 (g.B.SlotBuilder.items slots.builder) _ slots.count c.valid_at-valid.result
            (ap₂ spelling_at h.0 h.1) (ap (λ r. r.now) h.2) c.valid_at-valid.ensures slots.counted h.3 read.2,
      ),
    )

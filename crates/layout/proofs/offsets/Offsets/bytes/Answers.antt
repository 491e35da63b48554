use Rattle.std.proofs.Common.{◌∙◌, ◌+◌, ◌*◌, ap, subst, sym}
use Rattle.colbits.specs.Slice.{slice}
use Rattle.types.specs.OffsetSize.{size_of}
use Rattle.layout.specs.Offsets.{AreBytesOf}
use Rattle.layout.proofs.OffsetParts.{AreBytesOf-front}
use Rattle.layout.proofs.offsets.Offsets.bytes.Goals as goal

pub returns : goal.returns
returns c =
    let o = c.self.inside in
    let is = c.part.ensures ∙ ap (λ size. slice o.bytes.now 0 ((o.slots + 1) * size)) c.bytes.ensures in
    subst (λ b. AreBytesOf o.width b c.args.self.now) (sym is)
    (subst (AreBytesOf o.width (slice o.bytes.now 0 ((o.slots + 1) * size_of o.width))) c.self.view_is (AreBytesOf-front o.width o.bytes.now o.slots c.self.invariant.0 c.self.invariant.1))

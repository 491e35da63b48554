use Rattle.std.proofs.Common.{◌∙◌, ◌+◌, ◌<◌, ap, arith, length, sym, zero-add}
use Rattle.std.proofs.lemmas.Nat.{row_fits}
use Rattle.types.specs.OffsetSize.{size_of}
use Rattle.layout.specs.Offsets.{start_at, start_of}
use Rattle.layout.proofs.OffsetParts.{length-offsets_in, start_of-in}
use Rattle.layout.proofs.offsets.Offsets.get.Goals as goal

pub natural_at-requires-clause-there : goal.natural_at-requires-clause-there
natural_at-requires-clause-there c =
    let o = c.self.inside in
    let size = size_of o.width in
    let there : c.args.i < o.slots + 1 = omega (arith, c.requires, ap length c.self.view_is, length-offsets_in o.width o.bytes.now 0 o.slots) in
    omega (arith, row_fits c.args.i size (o.slots + 1) size there (omega arith), c.self.invariant.0)

pub natural_at-requires-clause-counted : goal.natural_at-requires-clause-counted
natural_at-requires-clause-counted c =
    let o = c.self.inside in
    c.self.invariant.1 c.args.i (omega (arith, c.requires, ap length c.self.view_is, length-offsets_in o.width o.bytes.now 0 o.slots))

pub returns : goal.returns
returns c =
    let o = c.self.inside in
    c.natural_at.ensures.number
    ∙ ap (start_at o.width o.bytes.now) (sym (zero-add c.args.i))
    ∙ sym (start_of-in o.width o.bytes.now 0 o.slots c.args.i (omega (arith, c.requires, ap length c.self.view_is, length-offsets_in o.width o.bytes.now 0 o.slots)))
    ∙ ap (λ l. start_of l c.args.i) c.self.view_is

use Rattle.std.proofs.Common.{◌∙◌, ◌+◌, ◌*◌, ◌≤◌, length, ap, sym, subst}
use Rattle.colbits.specs.Bit.{bits}
use Rattle.arrays.specs.Values.{HasBits}
use Rattle.arrays.proofs.PartLemmas.{bits_of_view}
use Rattle.arrays.proofs.view.View.bool_bits.Goals as goal

pub new-requires : goal.new-requires
new-requires c =
    let v = c.self.inside in
    let there = bits_of_view v c.args.self.now c.self.view_is c.requires c.self.invariant.lawful c.self.invariant.within in
    subst (λ b. v.start + v.len ≤ 8 * length b) (sym c.bytes_at.ensures) there.enough

pub returns : goal.returns
returns c =
    let v = c.self.inside in
    let there = bits_of_view v c.args.self.now c.self.view_is c.requires c.self.invariant.lawful c.self.invariant.within in
    subst (λ b. HasBits b c.args.self.now) (sym (c.new.ensures ∙ ap (λ b. bits b v.start v.len) c.bytes_at.ensures)) there.bits

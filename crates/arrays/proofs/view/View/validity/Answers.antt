use Rattle.std.proofs.Common.{◌∙◌, Some, option_map, ap, sym, arith}
use Rattle.colbits.specs.Bit.{bits}
use Rattle.layout.specs.Seen.{Seen}
use Rattle.arrays.proofs.SlotLemmas.{bits-view, validity-view}
use Rattle.arrays.proofs.view.View.validity.Goals as goal

pub new-requires : goal.new-requires
new-requires c =
    let enough = bits-view c.self.inside c.in-Some.bytes.now c.self.invariant.lawful (sym c.in-Some.ensures) in
    let within = c.self.invariant.within in
    omega arith

pub returns-in-Some : goal.returns-in-Some
returns-in-Some c =
    let v = c.self.inside in
    ap (λ b. Some b) c.new.ensures
    ∙ ap (option_map (λ bytes. bits bytes v.start v.len)) c.in-Some.ensures
    ∙ sym (validity-view v c.self.invariant.within)
    ∙ ap (λ (s : Seen). s.validity) c.self.view_is

pub returns-in-None : goal.returns-in-None
returns-in-None c =
    let v = c.self.inside in
    ap (option_map (λ bytes. bits bytes v.start v.len)) c.in-None.ensures
    ∙ sym (validity-view v c.self.invariant.within)
    ∙ ap (λ (s : Seen). s.validity) c.self.view_is

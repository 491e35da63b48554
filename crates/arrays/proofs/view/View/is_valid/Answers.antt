use Rattle.std.proofs.Common.{◌<◌, ◌∙◌, length, ap, sym, arith}
use Rattle.layout.specs.Seen.{Seen, valid_at}
use Rattle.arrays.proofs.ViewLemmas.{length-show_view}
use Rattle.arrays.proofs.PartLemmas.{holds_plain}
use Rattle.arrays.proofs.SlotLemmas.{valid-view}
use Rattle.arrays.proofs.view.View.is_valid.Goals as goal

pub returns-clause-validity : goal.returns-clause-validity
returns-clause-validity c =
    let v = c.self.inside in
    let len = sym (length-show_view v c.self.invariant.within) ∙ ap (λ (s : Seen). length s.items) c.self.view_is in
    let below : c.args.i < v.len = omega (arith, len) in
    c.is_valid.ensures ∙ sym (valid-view v c.args.i c.self.invariant.within below) ∙ ap (λ (s : Seen). valid_at s c.args.i) c.self.view_is

pub returns-clause-item : goal.returns-clause-item
returns-clause-item c =
    λ plain. returns-clause-validity c ∙ sym (holds_plain c.self.inside c.args.self.now c.args.i c.self.view_is plain c.self.invariant.within c.requires)

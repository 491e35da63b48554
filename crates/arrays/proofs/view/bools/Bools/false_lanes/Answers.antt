use Rattle.std.proofs.Common.{◌&&◌, ◌+◌, ◌∙◌, ap, not}
use Rattle.arrays.proofs.TruthLemmas.{false_slot}
use Rattle.arrays.proofs.view.bools.Bools.false_lanes.Goals as goal

pub returns : goal.returns
returns c = λ j h.
    let i = c.args.i + j in
    let unset = c.flipped-unset.ensures j h ∙ ap not (c.whole_lanes.ensures j h) in
    c.both.ensures j h
    ∙ (λ k. c.valid_lanes.ensures j h k && unset k)
    ∙ false_slot c.args.self.now.values c.args.self.now.validity i

use Rattle.std.proofs.Common.{◌&&◌, ◌+◌, ◌∙◌}
use Rattle.arrays.proofs.TruthLemmas.{true_slot}
use Rattle.arrays.proofs.view.bools.Bools.true_lanes.Goals as goal

pub returns : goal.returns
returns c = λ j h.
    let i = c.args.i + j in
    c.both.ensures j h
    ∙ (λ k. c.valid_lanes.ensures j h k && c.whole_lanes.ensures j h k)
    ∙ true_slot c.args.self.now.values c.args.self.now.validity i

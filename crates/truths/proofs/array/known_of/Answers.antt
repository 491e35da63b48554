use Rattle.std.proofs.Common.{sym}
use Rattle.arrays.proofs.ValidityLemmas.{kept-places-ones}
use Rattle.truths.proofs.array.known_of.Goals as goal

pub returns-then-are_ones : goal.returns-then-are_ones
returns-then-are_ones g c =
    sym (kept-places-ones (g.K.Places.at c.args.known.now) (g.K.Places.count c.args.known.now) (c.are_ones.ensures c.if-are_ones.true))

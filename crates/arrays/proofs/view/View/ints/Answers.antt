use Rattle.std.proofs.Common.{subst}
use Rattle.layout.specs.Item.{int}
use Rattle.types.specs.Number.{number_at}
use Rattle.arrays.specs.Values.{HasNumbers}
use Rattle.arrays.proofs.SlotLemmas.{items-seen}
use Rattle.arrays.proofs.view.View.ints.Goals as goal

pub returns-clause-items : goal.returns-clause-items
returns-clause-items g c =
    let t = g.T.Integer.ty in
    let has = subst (λ u. HasNumbers u c.numbers.result.now c.args.self.now) c.ty.ensures c.numbers.ensures in
    items-seen (λ j. int (number_at t c.numbers.result.now j)) c.validity.result c.slots.result c.args.self.now has.numbers c.validity.ensures c.slots.ensures.count

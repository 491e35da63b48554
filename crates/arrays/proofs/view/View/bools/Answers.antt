use Rattle.std.proofs.Common.{false, get_or}
use Rattle.layout.specs.Item.{boolean}
use Rattle.arrays.proofs.SlotLemmas.{items-seen}
use Rattle.arrays.proofs.view.View.bools.Goals as goal

pub returns-clause-items : goal.returns-clause-items
returns-clause-items c =
    items-seen (λ j. boolean (get_or c.bool_bits.result j false)) c.validity.result c.slots.result c.args.self.now c.bool_bits.ensures.values c.validity.ensures c.slots.ensures.count

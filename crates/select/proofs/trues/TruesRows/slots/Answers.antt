use Rattle.std.proofs.Common.{◌∙◌, sym}
use Rattle.select.proofs.OnesLemmas.{length-rows_of_ones}
use Rattle.select.proofs.trues.TruesRows.slots.Goals as goal

pub returns-clause-count : goal.returns-clause-count
returns-clause-count c = c.args.self.now.counted ∙ sym (length-rows_of_ones c.args.self.now.bits)

use Rattle.select.proofs.OnesLemmas.{all_left}
use Rattle.select.proofs.trues.TruesRows.first.Goals as goal

pub returns : goal.returns
returns c = all_left c.args.self.now.bits c.word.result c.word.ensures

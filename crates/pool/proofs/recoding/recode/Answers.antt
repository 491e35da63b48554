use Rattle.arrays.proofs.SlotLemmas.{text-recodable}
use Rattle.pool.proofs.recoding.recode.Goals as goal

pub add_all-codes-requires-clause-text : goal.add_all-codes-requires-clause-text
add_all-codes-requires-clause-text c = text-recodable c.args.view.now.kind c.requires

use Rattle.flat.proofs.UniqueLemmas.{batch_one}
use Rattle.flat.proofs.laws.nodes_are_one_batch.Goals as goal

pub returns : goal.returns
returns c = batch_one

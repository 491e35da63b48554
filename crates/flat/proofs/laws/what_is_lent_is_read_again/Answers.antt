use Rattle.flat.proofs.AgainLemmas.{batch_again}
use Rattle.flat.proofs.laws.what_is_lent_is_read_again.Goals as goal

pub returns : goal.returns
returns c = batch_again

use Rattle.answers.proofs.MergingLemmas.{refused}
use Rattle.answers.proofs.laws.the_least_bad_row_of_shards.Goals as goal

pub returns : goal.returns
returns c = refused

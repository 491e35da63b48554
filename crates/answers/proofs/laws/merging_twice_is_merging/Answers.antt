use Rattle.answers.proofs.MergingLemmas.{merged_twice}
use Rattle.answers.proofs.laws.merging_twice_is_merging.Goals as goal

pub returns : goal.returns
returns c = merged_twice

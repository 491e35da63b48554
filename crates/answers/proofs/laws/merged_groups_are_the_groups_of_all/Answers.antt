use Rattle.answers.proofs.MergingLemmas.{merged}
use Rattle.answers.proofs.laws.merged_groups_are_the_groups_of_all.Goals as goal

pub returns : goal.returns
returns c = λ fields others q kinds shards answers. merged fields q others kinds shards answers

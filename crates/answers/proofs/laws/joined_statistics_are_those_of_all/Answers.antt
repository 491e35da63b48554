use Rattle.answers.proofs.MergingLemmas.{stats_in_turn}
use Rattle.answers.proofs.laws.joined_statistics_are_those_of_all.Goals as goal

pub returns : goal.returns
returns c = stats_in_turn

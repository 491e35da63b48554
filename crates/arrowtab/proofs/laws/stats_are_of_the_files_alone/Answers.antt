use Rattle.arrowtab.proofs.SettledLemmas.{same_with}
use Rattle.arrowtab.proofs.laws.stats_are_of_the_files_alone.Goals as goal

pub returns : goal.returns
returns c = same_with

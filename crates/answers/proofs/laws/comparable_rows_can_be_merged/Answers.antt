use Rattle.answers.proofs.MergingCellLemmas.{all_compare}
use Rattle.answers.proofs.laws.comparable_rows_can_be_merged.Goals as goal

pub returns : goal.returns
returns c = all_compare

use Rattle.std.proofs.Common.{◌∙◌, sym}
use Rattle.arrowtab.proofs.OneLemmas.{of_all_batches}
use Rattle.arrowtab.proofs.laws.one_worker_has_one_history.Goals as goal

pub returns-clause-batches : goal.returns-clause-batches
returns-clause-batches c = of_all_batches

pub returns-clause-one : goal.returns-clause-one
returns-clause-one c = λ files fields h k one other. of_all_batches files fields h one ∙ sym (of_all_batches files fields k other)

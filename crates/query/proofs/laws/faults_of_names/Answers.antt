use Rattle.query.proofs.NameFaultLemmas.{names-ambiguous, names-missing}
use Rattle.query.proofs.laws.faults_of_names.Goals as goal

pub returns-clause-missing : goal.returns-clause-missing
returns-clause-missing c = names-missing

pub returns-clause-ambiguous : goal.returns-clause-ambiguous
returns-clause-ambiguous c = names-ambiguous

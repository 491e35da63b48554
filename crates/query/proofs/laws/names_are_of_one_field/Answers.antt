use Rattle.query.proofs.NamedLemmas.{names-once, names-placed}
use Rattle.query.proofs.laws.names_are_of_one_field.Goals as goal

pub returns-clause-once : goal.returns-clause-once
returns-clause-once c = names-once

pub returns-clause-placed : goal.returns-clause-placed
returns-clause-placed c = names-placed

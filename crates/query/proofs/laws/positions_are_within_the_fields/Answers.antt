use Rattle.query.proofs.NamedLemmas.{positions-within}
use Rattle.query.proofs.laws.positions_are_within_the_fields.Goals as goal

pub returns : goal.returns
returns c = positions-within

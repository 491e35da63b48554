use Rattle.evaluate.proofs.OperatorLemmas.{given_err, given_ok}
use Rattle.evaluate.proofs.columns.of_two.Goals as goal

pub values_of-requires : goal.values_of-requires
values_of-requires c = c.computed.ensures.fits

pub returns-clause-ok : goal.returns-clause-ok
returns-clause-ok c = given_ok _ _ _ c.computed.result c.values_of.result c.values_of.ensures c.computed.ensures

pub returns-clause-err : goal.returns-clause-err
returns-clause-err c = given_err _ _ _ c.computed.result c.values_of.result c.values_of.ensures c.computed.ensures

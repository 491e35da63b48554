use Rattle.std.proofs.Common.{ap}
use Rattle.evaluate.specs.Making.{is_of_operands, stop_of}
use Rattle.evaluate.proofs.OperatorLemmas.{given_rows, given_stop, given_values, nulls_made}
use Rattle.evaluate.proofs.columns.is_null.Goals as goal

pub values_of-requires : goal.values_of-requires
values_of-requires c = given_rows _ c.is_null.result c.is_null.ensures.err (λ e reported. ap is_of_operands reported)

pub returns-clause-ok : goal.returns-clause-ok
returns-clause-ok c =
    given_values _ _ c.is_null.result c.values_of.result c.values_of.ensures c.is_null.ensures.ok (λ r reported. nulls_made c.args.column.now.kind c.args.column.now.items r reported)

pub returns-clause-err : goal.returns-clause-err
returns-clause-err c = given_stop _ _ c.is_null.result c.values_of.result c.values_of.ensures c.is_null.ensures.err (λ e reported. ap stop_of reported)

use Rattle.std.proofs.Common.{ap}
use Rattle.evaluate.specs.Making.{is_of_operands, stop_of}
use Rattle.evaluate.proofs.OperatorLemmas.{given_rows, given_stop, given_values, not_made, not_stops}
use Rattle.evaluate.proofs.columns.not.Goals as goal

pub values_of-requires : goal.values_of-requires
values_of-requires c =
    given_rows _ c.kleene_not.result c.kleene_not.ensures.err (λ e reported. ap is_of_operands (not_stops c.args.column.now e c.requires reported))

pub returns-clause-ok : goal.returns-clause-ok
returns-clause-ok c =
    given_values _ _ c.kleene_not.result c.values_of.result c.values_of.ensures c.kleene_not.ensures.ok
    (λ r reported. not_made c.args.column.now.kind c.args.column.now.items r c.requires reported.1)

pub returns-clause-err : goal.returns-clause-err
returns-clause-err c =
    given_stop _ _ c.kleene_not.result c.values_of.result c.values_of.ensures c.kleene_not.ensures.err (λ e reported. ap stop_of (not_stops c.args.column.now e c.requires reported))

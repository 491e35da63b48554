use Rattle.std.proofs.Common.{◌-ℤ◌}
use Rattle.std.specs.Int.{w128}
use Rattle.std.proofs.lemmas.Int.{to_z-of_z}
use Rattle.evaluate.proofs.BesideLemmas.{behind_fits, behind_made, behind_stops}
use Rattle.evaluate.proofs.OperatorLemmas.{given_rows, given_stop, given_values}
use Rattle.evaluate.proofs.number.difference.Goals as goal

pub values_of-requires : goal.values_of-requires
values_of-requires c =
    given_rows _ c.sub_number.result c.sub_number.ensures.err
    (λ e reported. behind_fits ◌-ℤ◌ c.args.column.now c.args.number _ (to_z-of_z w128 c.args.number c.ranges.number) c.requires.has e reported)

pub returns-clause-ok : goal.returns-clause-ok
returns-clause-ok c =
    given_values _ _ c.sub_number.result c.values_of.result c.values_of.ensures c.sub_number.ensures.ok
    (λ r reported. behind_made ◌-ℤ◌ c.args.column.now c.args.number _ (to_z-of_z w128 c.args.number c.ranges.number) c.requires.has r reported.0 reported.1)

pub returns-clause-err : goal.returns-clause-err
returns-clause-err c =
    given_stop _ _ c.sub_number.result c.values_of.result c.values_of.ensures c.sub_number.ensures.err
    (λ e reported. behind_stops ◌-ℤ◌ c.args.column.now c.args.number _ (to_z-of_z w128 c.args.number c.ranges.number) c.requires.has e reported)

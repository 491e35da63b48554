use Rattle.std.proofs.Common.{◌≡◌, ◌∙◌, ap, subst, sym, true}
use Rattle.std.specs.Int.{w128}
use Rattle.std.proofs.lemmas.Int.{to_z-of_z}
use Rattle.arrays.specs.Shown.{shown}
use Rattle.arrays.specs.Kind as kind
use Rattle.kernels.specs.Prelude.{compared, has_number, number_beside}
use Rattle.evaluate.specs.Making.{is_of_operands, stop_of}
use Rattle.evaluate.proofs.BesideLemmas.{number_compared, number_stops}
use Rattle.evaluate.proofs.OperatorLemmas.{given_rows, given_stop, given_values}
use Rattle.evaluate.proofs.number.compare.Goals as goal

pub values_of-requires : goal.values_of-requires
values_of-requires c =
    let has = subst (λ w. has_number c.args.column.now.kind w ≡ true) (sym (to_z-of_z w128 c.args.number c.ranges.number)) c.requires.has in
    given_rows _ c.compare_number.result c.compare_number.ensures.err (λ e reported. ap is_of_operands (number_stops c.args.column.now _ e has reported))

pub returns-clause-ok : goal.returns-clause-ok
returns-clause-ok c =
    let a = c.args.column.now in
    let z = c.args.number in
    let d = c.placed.result in
    given_values _ _ c.compare_number.result c.values_of.result c.values_of.ensures c.compare_number.ensures.ok
    (λ r reported. number_compared c.args.is_first c.args.op c.in-Some.comparison d a z r (sym c.comparison_of.ensures ∙ c.in-Some.is) c.placed.ensures
    (subst (λ w. r ≡ shown kind.boolean (compared d a.items (number_beside a w).items)) (to_z-of_z w128 z c.ranges.number) reported.1))

pub returns-clause-err : goal.returns-clause-err
returns-clause-err c =
    let has = subst (λ w. has_number c.args.column.now.kind w ≡ true) (sym (to_z-of_z w128 c.args.number c.ranges.number)) c.requires.has in
    given_stop _ _ c.compare_number.result c.values_of.result c.values_of.ensures c.compare_number.ensures.err (λ e reported. ap stop_of (number_stops c.args.column.now _ e has reported))

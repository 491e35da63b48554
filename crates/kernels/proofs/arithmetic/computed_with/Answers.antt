use Rattle.std.proofs.Common.{◌∙◌, sym, subst}
use Rattle.std.specs.Int.{w128}
use Rattle.std.proofs.lemmas.Int.{to_z-of_z}
use Rattle.arrays.specs.Prelude.{IsBufferOf, IsOfType, show_numbers}
use Rattle.arrays.proofs.RangeLemmas.{IsOfType-from_test}
use Rattle.kernels.specs.Beside.{fault_with, number_beside, number_fault}
use Rattle.kernels.proofs.BesideLemmas.{column_beside, fault_beside, kept_beside, number_fits, reported_beside}
use Rattle.kernels.proofs.ResultLemmas.{computed, reported, reported_on}
use Rattle.kernels.proofs.arithmetic.computed_with.Goals as goal

pub narrow-requires : goal.narrow-requires
narrow-requires g c =
    subst (IsOfType g.T.Integer.ty) (sym (to_z-of_z w128 c.args.number c.ranges.number)) (IsOfType-from_test g.T.Integer.ty c.args.number c.requires.has)

pub returns-in_err-numbers-clause-err : goal.returns-in_err-numbers-clause-err
returns-in_err-numbers-clause-err g c =
    let f = g.O.Operation.exact in
    let ty = g.T.Integer.ty in
    let a = c.args.a.now in
    let z = c.args.number in
    let are = column_beside ty c.ints-x.result.values.now a z _ c.requires.kind c.ints-x.ensures.values (c.narrow.ensures ∙ to_z-of_z w128 z c.ranges.number) in
    reported_on c.from_residual-in_err-numbers.result (number_fault a z) (fault_with f a z) c.in_err-numbers.field-0.0 c.from_residual-in_err-numbers.ensures.1
    (reported_beside f a z c.in_err-numbers.field-0.0 (number_fits ty a z c.requires.kind c.requires.has)
    (reported f ty _ _ a (number_beside a z) c.bits_of.result c.ints-x.result.slots c.in_err-numbers.field-0.0 are (c.bits_of.ensures ∙ c.in_ok-validity.ensures ∙ kept_beside a z) c.ints-x.ensures.slots
    c.in_err-numbers.ensures.err))

pub returns-clause-ok : goal.returns-clause-ok
returns-clause-ok g c =
    let ty = g.T.Integer.ty in
    let n = c.ints-x.result.slots in
    let bitmap = c.buffer_of.result in
    let are = column_beside ty c.ints-x.result.values.now c.args.a.now c.args.number _ c.requires.kind c.ints-x.ensures.values (c.narrow.ensures ∙ to_z-of_z w128 c.args.number c.ranges.number) in
    let is = computed g.O.Operation.exact ty _ _ c.args.a.now (number_beside c.args.a.now c.args.number) c.bits_of.result n bitmap c.in_ok-numbers.numbers.items are
    (c.bits_of.ensures ∙ c.in_ok-validity.ensures ∙ kept_beside c.args.a.now c.args.number) c.ints-x.ensures.slots (subst (IsBufferOf bitmap) (sym c.bits_of.ensures) c.buffer_of.ensures) c.in_ok-numbers.ensures.ok in (
      fault_beside g.O.Operation.exact c.args.a.now c.args.number (number_fits ty c.args.a.now c.args.number c.requires.kind c.requires.has) ∙ is.faultless,
      c.in_ok-from_numbers.ensures ∙ (λ i. show_numbers (c.ty.ensures i) n bitmap (c.in_ok-values.ensures i)) ∙ is.shows,
    )

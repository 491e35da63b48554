use Rattle.std.proofs.Common.{◌∙◌, sym, subst}
use Rattle.arrays.specs.Prelude.{IsBufferOf, show_numbers}
use Rattle.kernels.specs.Arithmetic.{operands_fault, arithmetic_fault}
use Rattle.kernels.proofs.ResultLemmas.{computed, reported, reported_on, two_columns}
use Rattle.kernels.proofs.arithmetic.computed.Goals as goal

pub returns-in_err-numbers-clause-err : goal.returns-in_err-numbers-clause-err
returns-in_err-numbers-clause-err g c =
    let f = g.O.Operation.exact in
    let ty = g.T.Integer.ty in
    let a = c.args.a.now in
    let b = c.args.b.now in
    let are = two_columns ty c.ints-x.result.values.now c.ints-y.result.values.now a b c.requires.kind_a c.requires.kind_b c.requires.lengths c.ints-x.ensures.values c.ints-y.ensures.values in
    reported_on c.from_residual-in_err-numbers.result (operands_fault a b) (arithmetic_fault f a b) c.in_err-numbers.field-0.0 c.from_residual-in_err-numbers.ensures.1
    (reported f ty _ _ a b c.bits_of.result c.ints-x.result.slots c.in_err-numbers.field-0.0 are (c.bits_of.ensures ∙ c.in_ok-validity.ensures) c.ints-x.ensures.slots c.in_err-numbers.ensures.err)

pub returns-clause-ok : goal.returns-clause-ok
returns-clause-ok g c =
    let ty = g.T.Integer.ty in
    let n = c.ints-x.result.slots in
    let bitmap = c.buffer_of.result in
    let are = two_columns ty c.ints-x.result.values.now c.ints-y.result.values.now c.args.a.now c.args.b.now c.requires.kind_a c.requires.kind_b c.requires.lengths
    c.ints-x.ensures.values c.ints-y.ensures.values in
    let is = computed g.O.Operation.exact ty _ _ c.args.a.now c.args.b.now c.bits_of.result n bitmap c.in_ok-numbers.numbers.items are (c.bits_of.ensures ∙ c.in_ok-validity.ensures) c.ints-x.ensures.slots
    (subst (IsBufferOf bitmap) (sym c.bits_of.ensures) c.buffer_of.ensures) c.in_ok-numbers.ensures.ok in
    (is.faultless, c.in_ok-from_numbers.ensures ∙ (λ i. show_numbers (c.ty.ensures i) n bitmap (c.in_ok-values.ensures i)) ∙ is.shows)

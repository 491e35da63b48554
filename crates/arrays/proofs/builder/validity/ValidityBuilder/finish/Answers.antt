use Rattle.std.proofs.Common.{◌∙◌, ◌++◌, true, replicate, sym, ap}
use Rattle.std.proofs.lemmas.Bool.{eqb-true}
use Rattle.arrays.specs.Shown.{kept}
use Rattle.arrays.proofs.SlotsLemmas.{kept-valid}
use Rattle.arrays.proofs.builder.validity.ValidityBuilder.finish.Goals as goal

pub returns-then-is_empty : goal.returns-then-is_empty
returns-then-is_empty c =
    let s = c.self.inside in
    sym (ap kept (sym c.self.view_is) ∙ kept-valid s.before s.after (eqb-true _ 0 (sym c.is_empty.ensures ∙ c.if-is_empty.true)))

pub returns : goal.returns
returns c =
    let s = c.self.inside in
    let ones = replicate s.before true in
    c.kept_of.ensures
    ∙ ap kept
    (c.in_ok-finish.ensures
    ∙ c.in_ok-push_bits.ensures.ok
    ∙ ap (λ xs. xs ++ c.bits.result) (c.in_ok-push_ones.ensures.ok ∙ ap (λ xs. xs ++ ones) c.in_ok-slots.ensures)
    ∙ ap (λ xs. ones ++ xs) (c.bits.ensures ∙ c.in_ok-after.ensures)
    ∙ c.self.view_is)

use Rattle.std.proofs.Common.{◌≡◌, ◌∙◌, true, Some, sym, ap}
use Rattle.std.specs.List.{All}
use Rattle.arrays.specs.Shown.{kept}
use Rattle.arrays.proofs.ValidityLemmas.{kept-ones, kept-some}
use Rattle.arrays.proofs.validity.kept_of.Goals as goal

pub returns-then-are_ones : goal.returns-then-are_ones
returns-then-are_ones c =
    let ones : All (λ b. b ≡ true) c.bits.result = c.are_ones.ensures.0 c.if-are_ones.true in
    sym (ap kept (sym c.bits.ensures) ∙ kept-ones c.bits.result ones)

pub returns : goal.returns
returns c =
    let some : All (λ b. b ≡ true) c.bits.result → ⊥ = λ all. let t = c.are_ones.ensures.1 all in let f = c.if-are_ones.false in cc in
    sym (ap kept (sym c.bits.ensures) ∙ kept-some c.bits.result some ∙ ap Some c.bits.ensures)

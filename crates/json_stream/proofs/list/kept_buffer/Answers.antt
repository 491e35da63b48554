use Rattle.std.proofs.Common.{◌≡◌, ◌∙◌, true, None, Some, ap, subst, sym}
use Rattle.std.specs.List.{All}
use Rattle.std.specs.Prelude.{option_and_then}
use Rattle.arrays.specs.Prelude.{IsBufferOf, kept}
use Rattle.arrays.proofs.ValidityLemmas.{kept-ones, kept-some}
use Rattle.json_stream.proofs.list.kept_buffer.Goals as goal

pub returns-then-are_ones : goal.returns-then-are_ones
returns-then-are_ones c =
    let ones : All (λ b. b ≡ true) c.bits.result = c.are_ones.ensures.0 c.if-are_ones.true in
    let none : option_and_then kept c.args.validity ≡ None = ap (option_and_then kept) c.in-Some.is ∙ (ap kept (sym c.bits.ensures) ∙ kept-ones c.bits.result ones) in
    subst (IsBufferOf None) (sym none) tt

pub returns : goal.returns
returns c =
    let some : All (λ b. b ≡ true) c.bits.result → ⊥ = λ all. let t = c.are_ones.ensures.1 all in let f = c.if-are_ones.false in cc in
    let all : option_and_then kept c.args.validity ≡ Some c.in-Some.flags =
    ap (option_and_then kept) c.in-Some.is ∙ (ap kept (sym c.bits.ensures) ∙ kept-some c.bits.result some ∙ ap Some c.bits.ensures) in
    subst (IsBufferOf (Some c.into_buffer.result)) (sym all) c.into_buffer.ensures

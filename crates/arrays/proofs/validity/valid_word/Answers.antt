use Rattle.std.proofs.Common.{◌+◌, ◌∙◌, ap, nat_eq, sym}
use Rattle.std.proofs.lemmas.Nat.Bits.{bit_at_ones}
use Rattle.layout.specs.Seen.{valid_in}
use Rattle.arrays.proofs.validity.valid_word.Goals as goal

pub returns-in-None : goal.returns-in-None
returns-in-None c = λ j h. ap (λ n. nat_eq n 1) (bit_at_ones 64 j h) ∙ ap (λ v. valid_in v (c.args.i + j)) (sym c.in-None.is)

use Rattle.std.proofs.Common.{◌∙◌, ◌+◌, ◌-◌, ap, arith, nat_eq, sym}
use Rattle.std.proofs.lemmas.Nat.Bits.{bit_at-zero, bit_at_above}
use Rattle.colbits.proofs.WordLemmas.{bit_at-shr}
use Rattle.colbits.proofs.bitmap.builder.carried.Goals as goal

pub returns-then-used-eq0 : goal.returns-then-used-eq0
returns-then-used-eq0 c = λ j h. ap (λ b. nat_eq b 1) (bit_at-zero j ∙ sym (bit_at_above c.args.word 64 (64 - c.args.used + j) c.ranges.word.fits (omega arith)))

pub returns-else-used-eq0 : goal.returns-else-used-eq0
returns-else-used-eq0 c = λ j h. ap (λ b. nat_eq b 1) (bit_at-shr c.args.word (64 - c.args.used) j)

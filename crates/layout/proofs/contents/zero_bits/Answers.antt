use Rattle.std.proofs.Common.{◌∙◌, ◌-◌, ap, count_by, length, arith}
use Rattle.std.proofs.lemmas.List.Sums.{count_by-le-length}
use Rattle.colbits.proofs.BitLemmas.{length-bits}
use Rattle.layout.proofs.RowLemmas.{zeros-bits}
use Rattle.layout.proofs.contents.zero_bits.Goals as goal

pub returns : goal.returns
returns c =
    ap (λ k. c.args.n - k) (c.count_ones.ensures ∙ ap (count_by (λ b. b)) c.new.ensures)
    ∙ zeros-bits c.args.bytes.now c.args.n

pub overflow_sub-result : goal.overflow_sub-result
overflow_sub-result c =
    omega (arith, c.count_ones.ensures, count_by-le-length (λ b. b) c.new.result, ap length c.new.ensures, length-bits c.args.bytes.now 0 c.args.n)

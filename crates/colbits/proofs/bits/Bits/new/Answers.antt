use Rattle.std.proofs.Common.{◌∙◌, ◌/◌, ◌%◌, ap}
use Rattle.std.proofs.lemmas.List.{take_rest}
use Rattle.colbits.specs.Bit.{bits}
use Rattle.colbits.proofs.BitLemmas.{bits-from_byte}
use Rattle.colbits.proofs.bits.Bits.new.Goals as goal

pub returns : goal.returns
returns c =
    let bytes = c.args.bytes.now in
    ap (λ b. bits b (c.args.start % 8) c.args.len) (take_rest bytes (c.args.start / 8)) ∙ bits-from_byte bytes c.args.start c.args.len

use Rattle.std.proofs.Common.{◌∙◌, sym, le-ltb}
use Rattle.types.proofs.ByteLemmas.{bit-read, bit-past}
use Rattle.layout.proofs.buffers.bit.Goals as goal

pub returns-then-k-bytes : goal.returns-then-k-bytes
returns-then-k-bytes c = bit-read c.args.bytes.now c.args.k

pub returns-else-k-bytes : goal.returns-else-k-bytes
returns-else-k-bytes c = le-ltb _ _ c.if-k-bytes.false ∙ sym (bit-past c.args.bytes.now c.args.k c.if-k-bytes.false)

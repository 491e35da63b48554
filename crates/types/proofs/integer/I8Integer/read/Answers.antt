use Rattle.std.proofs.Common.{arith, rules}
use Rattle.types.proofs.IntegerLemmas.{signed_row}
use Rattle.types.proofs.integer.I8Integer.read.Goals as goal

pub returns : goal.returns
returns c = signed_row _ c.args.j c.args.numbers.now _ _ (search rules) c.from_le_bytes.ensures c.as_chunks.ensures.front (omega arith)

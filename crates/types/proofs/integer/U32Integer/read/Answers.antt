use Rattle.std.proofs.Common.{arith}
use Rattle.types.proofs.IntegerLemmas.{unsigned_row}
use Rattle.types.proofs.integer.U32Integer.read.Goals as goal

pub returns : goal.returns
returns c = unsigned_row _ c.args.j c.args.numbers.now _ _ c.from_le_bytes.ensures c.as_chunks.ensures.front (omega arith)

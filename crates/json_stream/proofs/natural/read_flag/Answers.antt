use Rattle.std.proofs.Common.{refl}
use Rattle.json_read.specs.Prelude.{boolean}
use Rattle.json_stream.proofs.natural.read_flag.Goals as goal

pub returns-in-Bool-clause-reads : goal.returns-in-Bool-clause-reads
returns-in-Bool-clause-reads c = (boolean c.in-Bool.value, refl, rw c.in-Bool.is at c.in_ok-literal.ensures.reads)

use Rattle.std.proofs.Common.{sym}
use Rattle.layout.proofs.RowLemmas.{null_count-absent}
use Rattle.layout.proofs.contents.null_count.Goals as goal

pub returns-in-None : goal.returns-in-None
returns-in-None c = sym (null_count-absent c.args.buffers.now c.args.n (sym c.in-None.ensures))

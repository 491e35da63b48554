use Rattle.std.proofs.Common.{sym, arith}
use Rattle.json_read.specs.ListBuffers.{IsFlag}
use Rattle.json_base.proofs.JsonItems.{each_pushed, each_done}
use Rattle.json_read.proofs.list.read_flags.Goals as goal

pub loop-index-preserved : goal.loop-index-preserved
loop-index-preserved c =
    rw c.in-Ok.ensures.ok (each_pushed IsFlag _ _ _ _ _ c.loop-index.invariant (omega arith) c.index-flags-index.is (sym c.in-Some.ensures))

pub returns-clause-ok : goal.returns-clause-ok
returns-clause-ok c = each_done _ _ _ _ c.loop-index.invariant (omega arith)

use Rattle.std.proofs.Common.{arith}
use Rattle.json_read.proofs.JsonCatalogs.{some_at, none_at, none_of}
use Rattle.json_read.proofs.catalog.has_some.Goals as goal

pub returns-then-is_some-clause-some : goal.returns-then-is_some-clause-some
returns-then-is_some-clause-some c = some_at _ _ c.loop-encoding-test.true c.if-is_some.ensures

pub loop-encoding-preserved : goal.loop-encoding-preserved
loop-encoding-preserved c = none_at c.args.encodings.now _ c.loop-encoding.invariant c.loop-encoding-test.true c.if-is_some.ensures

pub returns-clause-none : goal.returns-clause-none
returns-clause-none c = none_of c.args.encodings.now c.loop-encoding.encoding-index c.loop-encoding.invariant (omega arith)

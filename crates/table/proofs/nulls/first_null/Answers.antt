use Rattle.std.proofs.Common.{arith, get_or, sym}
use Rattle.arrays.specs.Prelude.{is_null, null}
use Rattle.table.proofs.NullLemmas.{null_there, position-found}
use Rattle.table.proofs.nulls.first_null.Goals as goal

pub returns-then-not-holds : goal.returns-then-not-holds
returns-then-not-holds c =
    let items = c.args.view.now.items in
    let i = c.loop-i.i in
    sym (position-found is_null items i null c.loop-i.invariant (omega arith) (null_there (is_null (get_or items i null)) c.holds.result c.holds.ensures c.if-not-holds.true))

use Rattle.std.proofs.Common.{subst, sym}
use Rattle.keys.specs.Keys.{AreIds}
use Rattle.keys.proofs.MemoLemmas.{next_id}
use Rattle.keys.proofs.rows.intern_each.Goals as goal

pub loop-row-preserved : goal.loop-row-preserved
loop-row-preserved c =
    let v = c.loop-row.invariant in
    let new = c.intern_row.new.self in
    let next = next_id c.args.columns.now.by.now c.args.columns.now.batch.now.columns c.args.rows.now c.loop-row.row-index c.args.keys.now c.loop-row.keys new c.loop-row.ids.items
    c.in_ok-intern_row.field-0 c.loop-row-test.true v.0 v.1 (record { keys_are = c.in_ok-intern_row.ensures.keys; there = c.in_ok-intern_row.ensures.id }) in
    (next.0, subst (AreIds new _) (sym c.in_ok-push.ensures.items) next.1)

use Rattle.std.proofs.Common.{◌∙◌, get_or, subst, sym}
use Rattle.keys.specs.Keys.{AreIds}
use Rattle.keys.proofs.MemoLemmas.{next_id, numbered_row}
use Rattle.keys.proofs.numbers.intern_as.Goals as goal

pub loop-row-preserved : goal.loop-row-preserved
loop-row-preserved g c =
    let row = get_or c.args.rows.now c.loop-row.row-index 0 in
    let v = c.loop-row.invariant in
    let new = c.intern_item.new.keys in
    let is = numbered_row c.args.view.now _ c.get-number.result row c.args.columns.now.batch.now c.args.columns.now.by.now c.ints-column.ensures.items c.get-number.ensures.item
    c.requires.items (c.requires.within c.loop-row.row-index 0 c.loop-row-test.true) in
    let step = c.in_ok-intern_item.ensures.id is v.2 in
    let next = next_id c.args.columns.now.by.now c.args.columns.now.batch.now.columns c.args.rows.now c.loop-row.row-index c.args.keys.now c.loop-row.keys new c.loop-row.ids.items
    c.in_ok-intern_item.field-0 c.loop-row-test.true v.0 v.1 step.0 in
    (next.0, subst (AreIds new _) (sym c.in_ok-push.ensures.items) next.1, step.1, c.in_ok-intern_item.ensures.entries ∙ v.3)

use Rattle.std.proofs.Common.{◌∙◌, ◌∷◌, [], ap, arith, get_or, length, subst, sym}
use Rattle.arrays.specs.Prelude.{Seen, item_of, looked_up}
use Rattle.keys.specs.Prelude.{AreIds, Knows}
use Rattle.keys.proofs.MemoLemmas.{coded_row, coded_within, next_id}
use Rattle.keys.proofs.codes.intern_codes.Goals as goal

pub intern_slot-requires-clause-code : goal.intern_slot-requires-clause-code
intern_slot-requires-clause-code c =
    let view = c.args.view.now in
    let row = get_or c.args.rows.now c.loop-row.row-index 0 in
    coded_within view _ c.get-code.result row c.codes-codes.ensures.items (c.ints-column.ensures.items ∙ ap (λ (s : Seen). s.items) c.codes-codes.ensures.value) c.get-code.ensures.item _
    (omega (arith, c.requires.within c.loop-row.row-index 0 c.loop-row-test.true, c.requires.items.len)) c.codes-codes.ensures.within
    (ap (λ (s : Seen). length s.items) (sym c.entries-entries.ensures))

pub intern_slot-requires-clause-room : goal.intern_slot-requires-clause-room
intern_slot-requires-clause-room c = ap (λ (s : Seen). length s.items) c.entries-entries.ensures ∙ c.loop-row.invariant.3.room

pub loop-row-preserved : goal.loop-row-preserved
loop-row-preserved c =
    let view = c.args.view.now in
    let row = get_or c.args.rows.now c.loop-row.row-index 0 in
    let v = c.loop-row.invariant in
    let new = c.intern_slot.new.keys in
    let memo = c.intern_slot.new.memo in
    let same = ap (λ (s : Seen). s.items) c.entries-entries.ensures in
    let is = coded_row view _ c.get-code.result row c.codes-codes.ensures.items (c.ints-column.ensures.items ∙ ap (λ (s : Seen). s.items) c.codes-codes.ensures.value) c.get-code.ensures.item
    c.args.columns.now.batch.now c.args.columns.now.by.now c.requires.items (c.requires.within c.loop-row.row-index 0 c.loop-row-test.true) in
    let step = c.in_ok-intern_slot.ensures (is ∙ ap (λ l. looked_up l (item_of c.get-code.result) ∷ []) (sym same)) v.2
    (subst (λ l. Knows c.loop-row.keys l c.loop-row.memo) (sym same) v.3) in
    let next = next_id c.args.columns.now.by.now c.args.columns.now.batch.now.columns c.args.rows.now c.loop-row.row-index c.args.keys.now c.loop-row.keys new c.loop-row.ids.items
    c.in_ok-intern_slot.field-0 c.loop-row-test.true v.0 v.1 step.0 in
    (next.0, subst (AreIds new _) (sym c.in_ok-push.ensures.items) next.1, step.1, subst (λ l. Knows new l memo) same step.2)

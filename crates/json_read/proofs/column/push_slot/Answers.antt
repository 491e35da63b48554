use Rattle.std.proofs.Common.{◌≡◌, Some, None, true, false, arith}
use Rattle.json_base.proofs.Views.{items_len-items_view}
use Rattle.json_read.specs.Prelude.{flagged_at, flags_in, spelling_of, values_in}
use Rattle.json_base.proofs.JsonItems.{get_item_at, get_item_some}
use Rattle.json_read.proofs.JsonSlots.{value_pushed, null_pushed, tells_unfit, tells_no_flag}
use Rattle.json_read.proofs.column.push_slot.Goals as goal

pub returns-in-Ok-clause-ok : goal.returns-in-Ok-clause-ok
returns-in-Ok-clause-ok g c =
    let valid : flagged_at (flags_in c.args.slots.now) c.args.index ≡ Some true = cc (c.valid_at.ensures, c.in-Some-true.is, c.in-Some-true.field-0-test) in
    value_pushed (spelling_of (g.B.ColumnBuilder.kind c.args.builder.now)) (flags_in c.args.slots.now) (values_in c.args.slots.now) c.args.index _ _ _
    c.requires.so_far valid (get_item_at _ _ c.index-slots-index.result c.requires.within) c.in-Ok.ensures.ok

pub returns-in-Err-clause-err : goal.returns-in-Err-clause-err
returns-in-Err-clause-err g c =
    let valid : flagged_at (flags_in c.args.slots.now) c.args.index ≡ Some true = cc (c.valid_at.ensures, c.in-Some-true.is, c.in-Some-true.field-0-test) in
    tells_unfit (spelling_of (g.B.ColumnBuilder.kind c.args.builder.now)) (flags_in c.args.slots.now) (values_in c.args.slots.now) c.args.index _ _ _ _
    c.requires.so_far valid (get_item_at _ _ c.index-slots-index.result c.requires.within) c.in-Err.ensures.err c.unfit_at.ensures

pub returns-in-Ok-push_null-clause-ok : goal.returns-in-Ok-push_null-clause-ok
returns-in-Ok-push_null-clause-ok g c =
    let null : flagged_at (flags_in c.args.slots.now) c.args.index ≡ Some false = cc (c.valid_at.ensures, c.in-Some-false.is, c.in-Some-false.field-0-test) in
    let found = get_item_some (values_in c.args.slots.now) c.args.index (omega (arith, c.requires.within, items_len-items_view c.args.slots.now.values.now)) in
    null_pushed (spelling_of (g.B.ColumnBuilder.kind c.args.builder.now)) (flags_in c.args.slots.now) (values_in c.args.slots.now) c.args.index _ _ found.0
    c.requires.so_far null found.1 c.in-Ok-push_null.ensures.ok

pub returns-in-None-clause-err : goal.returns-in-None-clause-err
returns-in-None-clause-err g c =
    let none : flagged_at (flags_in c.args.slots.now) c.args.index ≡ None = cc (c.valid_at.ensures, c.in-None.is) in
    let found = get_item_some (values_in c.args.slots.now) c.args.index (omega (arith, c.requires.within, items_len-items_view c.args.slots.now.values.now)) in
    tells_no_flag (spelling_of (g.B.ColumnBuilder.kind c.args.builder.now)) (flags_in c.args.slots.now) (values_in c.args.slots.now) c.args.index found.0 _
    found.1 none c.at.ensures

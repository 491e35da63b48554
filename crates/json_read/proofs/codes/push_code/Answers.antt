use Rattle.std.proofs.Common.{◌≡◌, Some, None, false, arith}
use Rattle.json_base.proofs.Views.{items_len-items_view}
use Rattle.json_read.specs.Prelude.{flagged_at, flags_in, values_in}
use Rattle.json_read.proofs.JsonCodes.{null_added, tells_no_index_flag}
use Rattle.json_base.proofs.JsonItems.{get_item_some}
use Rattle.json_read.proofs.codes.push_code.Goals as goal

pub returns-in-Ok-clause-ok : goal.returns-in-Ok-clause-ok
returns-in-Ok-clause-ok c =
    let null : flagged_at (flags_in c.args.slots.now) c.args.index ≡ Some false = cc (c.valid_at.ensures, c.in-Some-false.is, c.in-Some-false.field-0-test) in
    let found = get_item_some (values_in c.args.slots.now) c.args.index (omega (arith, c.requires.within, items_len-items_view c.args.slots.now.values.now)) in
    null_added _ _ _ _ _ _ _ found.0 c.requires.so_far null found.1 c.in-Ok.ensures.kept c.in-Ok.ensures.ok

pub returns-in-None-clause-err : goal.returns-in-None-clause-err
returns-in-None-clause-err c =
    let none : flagged_at (flags_in c.args.slots.now) c.args.index ≡ None = cc (c.valid_at.ensures, c.in-None.is) in
    let found = get_item_some (values_in c.args.slots.now) c.args.index (omega (arith, c.requires.within, items_len-items_view c.args.slots.now.values.now)) in
    tells_no_index_flag _ _ _ _ _ found.0 _ found.1 none c.at.ensures

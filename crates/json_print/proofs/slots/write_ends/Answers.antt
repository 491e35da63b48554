use Rattle.std.proofs.Common.{◌≡◌, ◌+◌, sum_by, arith}
use Rattle.arrays.specs.Prelude.{Seen, joined_items}
use Rattle.json.specs.Tree.{items_tokens}
use Rattle.json_base.specs.Prelude.{items_outline}
use Rattle.json_print.specs.ColumnData.{item_length, offsets_data}
use Rattle.json_print.proofs.Steps.{offsets_append, step}
use Rattle.json_print.proofs.slots.write_ends.Goals as goal

pub loop-column-preserved : goal.loop-column-preserved
loop-column-preserved c =
    let column : Seen = c.column-item.result in
    let end : c.in_ok-end.end ≡ c.loop-column.end + sum_by item_length column.items = c.in_ok-end.ensures.end in
    step (λ cs. items_tokens (items_outline (offsets_data c.args.width c.loop-column.end (joined_items cs)))) (λ cs. items_tokens (items_outline (offsets_data c.args.width c.in_ok-end.end (joined_items cs))))
    c.args.columns.now c.loop-column.column-index column _ c.loop-column.out _ _
    (λ cs. rw end (offsets_append c.args.width c.loop-column.end column.items (joined_items cs))) (omega arith) c.column-item.is c.in_ok-end.ensures.starts c.loop-column.invariant

use Rattle.std.proofs.Common.{List, arith}
use Rattle.arrays.specs.Prelude.{Seen, joined_items}
use Rattle.json.specs.Tree.{items_tokens}
use Rattle.json_base.specs.Prelude.{items_outline}
use Rattle.json_print.specs.Prelude.{IsPartOf, each, part_data}
use Rattle.json_print.proofs.Steps.{All-read, each_append, step}
use Rattle.json_print.proofs.slots.write_items.Goals as goal

pub write_slots-requires : goal.write_slots-requires
write_slots-requires c = All-read (λ column. IsPartOf column.kind c.args.part) c.args.columns.now _ c.column-item.result c.requires (omega arith) c.column-item.is

pub loop-column-preserved : goal.loop-column-preserved
loop-column-preserved c =
    let value = part_data c.args.part in
    let column : Seen = c.column-item.result in
    let rest = λ (cs : List Seen). items_tokens (items_outline (each value (joined_items cs))) in
    step rest rest c.args.columns.now c.loop-column.column-index column _ c.loop-column.out _ _
    (λ cs. each_append value column.items (joined_items cs)) (omega arith) c.column-item.is c.in_ok-write_slots.ensures c.loop-column.invariant

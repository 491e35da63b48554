use Rattle.std.proofs.Common.{◌≡◌, List, Some, arith}
use Rattle.std.proofs.lemmas.List.Concat.{flat_map-append}
use Rattle.arrays.specs.Prelude.{Seen, inner_items, item_kind, items_in, joined_items}
use Rattle.json_print.proofs.Steps.{All-read, step}
use Rattle.json_print.proofs.lists.lists_of.Goals as goal

pub loop-column-preserved : goal.loop-column-preserved
loop-column-preserved c =
    let column : Seen = c.column-item.result in
    let rest = λ (cs : List Seen). inner_items (joined_items cs) in
    record {
      items =
          step rest rest c.args.columns.now c.loop-column.column-index column _ (joined_items c.loop-column.lists.items) _ _
          (λ cs. flat_map-append items_in column.items (joined_items cs)) (omega arith) c.column-item.is c.in_ok-push_lists.ensures.items c.loop-column.invariant.items;
      kinds = λ k all. c.in_ok-push_lists.ensures.kinds k (All-read (λ s. item_kind s.kind ≡ Some k) c.args.columns.now _ column all (omega arith) c.column-item.is) (c.loop-column.invariant.kinds k all);
    }

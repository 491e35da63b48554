use Rattle.std.proofs.Common.{◌∙◌, ap, map, sym}
use Rattle.tallies.specs.Prelude.{agg_at, show_column, show_item, show_number}
use Rattle.tallies.proofs.ColumnLemmas.{shape}
use Rattle.tallies.proofs.MergedLemmas.{cells_merged, items_merged, merged_at}
use Rattle.tallies.proofs.column.TallyColumn.merge_items.Goals as goal

pub returns-in_ok-merge_items-in-Numbers : goal.returns-in_ok-merge_items-in-Numbers
returns-in_ok-merge_items-in-Numbers c =
    let v = c.in_ok-items-in-Numbers.items in
    let place = c.in-Numbers.place in
    let end = c.in-Numbers.end in
    cells_merged show_item (agg_at end 0) (agg_at end place) (merged_at end place) (show_column c.args.self.now) v.items
    (ap show_column c.in-Numbers.is ∙ ap (shape (agg_at end place)) (sym (c.in_ok-items-in-Numbers.ensures ∙ ap (map show_number) c.deref.ensures.value)))
    c.deref_mut.result.now c.args.ids.now (map show_item c.args.others.now) c.deref_mut.ensures.value
    v.len c.merge_items.new.bests v.ok.0 c.merge_items.auto.bests c.in_ok-merge_items-in-Numbers.ensures

pub returns-in-Items : goal.returns-in-Items
returns-in-Items c =
    let v = c.in-Items.items in
    let place = c.in-Items._place in
    let end = c.in-Items.end in
    items_merged c.merge_items-in-Items.result end place (show_column c.args.self.now) v.items (ap show_column c.in-Items.is)
    c.deref_mut-in-Items.result.now c.merge_items-in-Items.new.bests c.args.ids.now (map show_item c.args.others.now) v.len c.deref_mut-in-Items.ensures.value
    v.ok.0 c.merge_items-in-Items.auto.bests c.merge_items-in-Items.ensures

use Rattle.std.proofs.Common.{◌≡◌, ◌∙◌, OnOk, ap, map, subst}
use Rattle.tallies.specs.Prelude.{agg_at, merge_all, show_column, show_item, show_number}
use Rattle.tallies.proofs.MergedLemmas.{cells_few, cells_merged, items_merged, merged_at}
use Rattle.tallies.proofs.column.TallyColumn.merge_numbers.Goals as goal

pub merge_each-requires-clause-few : goal.merge_each-requires-clause-few
merge_each-requires-clause-few c =
    let end = c.in-Numbers.end in
    let place = c.in-Numbers._place in
    cells_few show_number (agg_at end 0) (agg_at end place) (merged_at end place) (show_column c.args.self.now) c.in-Numbers.bests.items (ap show_column c.in-Numbers.is)
    c.deref_mut.result.now c.args.ids.now (map show_number c.args.others.now) c.deref_mut.ensures.value c.requires.few

pub returns-in-Numbers : goal.returns-in-Numbers
returns-in-Numbers c =
    let v = c.in-Numbers.bests in
    let end = c.in-Numbers.end in
    let place = c.in-Numbers._place in
    cells_merged show_number (agg_at end 0) (agg_at end place) (merged_at end place) (show_column c.args.self.now) v.items (ap show_column c.in-Numbers.is)
    c.deref_mut.result.now c.args.ids.now (map show_number c.args.others.now) c.deref_mut.ensures.value
    v.len c.merge_each.new.cells v.ok.0 c.merge_each.auto.cells c.merge_each.ensures

pub returns-in_ok-others-in-Items : goal.returns-in_ok-others-in-Items
returns-in_ok-others-in-Items c =
    let v = c.in-Items.items in
    let place = c.in-Items._place in
    let end = c.in-Items.end in
    items_merged c.merge_items.result end place (show_column c.args.self.now) v.items (ap show_column c.in-Items.is)
    c.deref_mut-in-Items.result.now c.merge_items.new.bests c.args.ids.now (map show_number c.args.others.now) v.len c.deref_mut-in-Items.ensures.value
    v.ok.0 c.merge_items.auto.bests
    (subst (λ m. OnOk c.merge_items.result (map show_item c.merge_items.new.bests ≡ merge_all (agg_at end 0) c.args.ids.now m (map show_item c.deref_mut-in-Items.result.now)))
    (ap (map show_item) c.deref.ensures.value ∙ c.in_ok-others-in-Items.ensures) c.merge_items.ensures)

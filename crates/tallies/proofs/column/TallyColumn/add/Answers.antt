use Rattle.std.proofs.Common.{◌∙◌, ap, map, refl, replicate, sym}
use Rattle.arrays.specs.Prelude.{null}
use Rattle.evaluate.specs.Aggs as agg
use Rattle.tallies.specs.Prelude.{agg_at, counted, show_column, show_item, show_number, show_total}
use Rattle.tallies.proofs.ColumnLemmas.{column_added, column_room, items_added, same_end, seen_at_end, seen_items, seen_rows, shape}
use Rattle.tallies.proofs.column.TallyColumn.add.Goals as goal

pub add_each-requires-clause-few : goal.add_each-requires-clause-few
add_each-requires-clause-few c =
    column_room counted agg.Rows agg.Rows (λ xs. refl) (show_column c.args.self.now) c.in-Rows.counts.items (ap show_column c.in-Rows.is)
    c.deref_mut.result.now _ c.deref_mut.ensures.value c.requires.few

pub add_each-requires-in-Count-clause-few : goal.add_each-requires-in-Count-clause-few
add_each-requires-in-Count-clause-few c =
    column_room counted (agg.Count 0) (agg.Count c.in-Count.place) (λ xs. refl) (show_column c.args.self.now) c.in-Count.counts.items (ap show_column c.in-Count.is)
    c.deref_mut-in-Count.result.now _ c.deref_mut-in-Count.ensures.value c.requires.few

pub add_sums-requires-clause-few : goal.add_sums-requires-clause-few
add_sums-requires-clause-few c =
    column_room show_total (agg.Sum 0) (agg.Sum c.in-Sum.place) (λ xs. refl) (show_column c.args.self.now) c.in-Sum.totals.items (ap show_column c.in-Sum.is)
    c.deref_mut-in-Sum.result.now _ c.deref_mut-in-Sum.ensures.value c.requires.few

pub add_best-requires-clause-few : goal.add_best-requires-clause-few
add_best-requires-clause-few c =
    let end = c.in-Numbers.end in
    column_room show_number (agg_at end 0) (agg_at end c.in-Numbers.place) (same_end end c.in-Numbers.place) (show_column c.args.self.now) c.in-Numbers.bests.items (ap show_column c.in-Numbers.is)
    c.deref_mut-in-Int.result.now _ c.deref_mut-in-Int.ensures.value c.requires.few

pub returns-in-Rows : goal.returns-in-Rows
returns-in-Rows c = λ tables h.
    let b = c.args.batch.now in
    let v = c.in-Rows.counts in
    column_added counted agg.Rows agg.Rows (λ xs. refl) (show_column c.args.self.now) v.items (ap show_column c.in-Rows.is)
    v.len c.deref_mut.result.now c.add_each.new.cells tables c.args.ids.now c.args.rows.now (replicate c.rows.result null) b.columns
    v.ok.0 c.deref_mut.ensures.value c.add_each.auto.cells (seen_rows c.rows.result b.columns c.args.rows.now) h c.add_each.ensures

pub returns-in-Count : goal.returns-in-Count
returns-in-Count c = λ tables h.
    let b = c.args.batch.now in
    let v = c.in-Count.counts in
    let place = c.in-Count.place in
    let view = c.column_at-view.result in
    column_added counted (agg.Count 0) (agg.Count place) (λ xs. refl) (show_column c.args.self.now) v.items (ap show_column c.in-Count.is)
    v.len c.deref_mut-in-Count.result.now c.add_each-in-Count.new.cells tables c.args.ids.now c.args.rows.now view.items b.columns
    v.ok.0 c.deref_mut-in-Count.ensures.value c.add_each-in-Count.auto.cells (seen_items b place view c.args.rows.now c.column_at-view.ensures.items c.requires.within) h c.add_each-in-Count.ensures

pub returns-in-Sum : goal.returns-in-Sum
returns-in-Sum c = λ tables h.
    let b = c.args.batch.now in
    let v = c.in-Sum.totals in
    let place = c.in-Sum.place in
    let view = c.column_at-view-in-Sum.result in
    column_added show_total (agg.Sum 0) (agg.Sum place) (λ xs. refl) (show_column c.args.self.now) v.items (ap show_column c.in-Sum.is)
    v.len c.deref_mut-in-Sum.result.now c.add_sums.new.totals tables c.args.ids.now c.args.rows.now view.items b.columns
    v.ok.0 c.deref_mut-in-Sum.ensures.value c.add_sums.auto.totals (seen_items b place view c.args.rows.now c.column_at-view-in-Sum.ensures.items c.requires.within) h c.add_sums.ensures

pub returns-in-Int : goal.returns-in-Int
returns-in-Int c = λ tables h.
    let b = c.args.batch.now in
    let v = c.in-Numbers.bests in
    let place = c.in-Numbers.place in
    let end = c.in-Numbers.end in
    let view = c.column_at-view-in-Numbers.result in
    column_added show_number (agg_at end 0) (agg_at end place) (same_end end place) (show_column c.args.self.now) v.items (ap show_column c.in-Numbers.is)
    v.len c.deref_mut-in-Int.result.now c.add_best.new.bests tables c.args.ids.now c.args.rows.now view.items b.columns
    v.ok.0 c.deref_mut-in-Int.ensures.value c.add_best.auto.bests
    (seen_items b place view c.args.rows.now c.column_at-view-in-Numbers.ensures.items c.requires.within ∙ seen_at_end end b place c.args.rows.now) h c.add_best.ensures

pub returns-in_ok-add_items-in-Numbers : goal.returns-in_ok-add_items-in-Numbers
returns-in_ok-add_items-in-Numbers c = λ tables h.
    let b = c.args.batch.now in
    let v = c.in_ok-items-in-Numbers.items in
    let place = c.in-Numbers.place in
    let end = c.in-Numbers.end in
    let view = c.column_at-view-in-Numbers.result in
    column_added show_item (agg_at end 0) (agg_at end place) (same_end end place) (show_column c.args.self.now) v.items
    (ap show_column c.in-Numbers.is ∙ ap (shape (agg_at end place)) (sym (c.in_ok-items-in-Numbers.ensures ∙ ap (map show_number) c.deref.ensures.value)))
    v.len c.deref_mut-in-Numbers.result.now c.add_items.new.bests tables c.args.ids.now c.args.rows.now view.items b.columns
    v.ok.0 c.deref_mut-in-Numbers.ensures.value c.add_items.auto.bests
    (seen_items b place view c.args.rows.now c.column_at-view-in-Numbers.ensures.items c.requires.within ∙ seen_at_end end b place c.args.rows.now) h c.in_ok-add_items-in-Numbers.ensures

pub returns-in-Items : goal.returns-in-Items
returns-in-Items c = λ tables h.
    let b = c.args.batch.now in
    let v = c.in-Items.items in
    let place = c.in-Items.place in
    let end = c.in-Items.end in
    let view = c.column_at-view-in-Items.result in
    items_added c.add_items-in-Items.result end place (show_column c.args.self.now) v.items (ap show_column c.in-Items.is)
    v.len c.deref_mut-in-Items.result.now c.add_items-in-Items.new.bests tables c.args.ids.now c.args.rows.now view.items b.columns
    v.ok.0 c.deref_mut-in-Items.ensures.value c.add_items-in-Items.auto.bests
    (seen_items b place view c.args.rows.now c.column_at-view-in-Items.ensures.items c.requires.within ∙ seen_at_end end b place c.args.rows.now) h c.add_items-in-Items.ensures

use Rattle.std.proofs.Common.{ap, map, refl}
use Rattle.evaluate.specs.Aggs as agg
use Rattle.tallies.specs.Prelude.{counted, show_column}
use Rattle.tallies.proofs.MergedLemmas.{cells_few, cells_merged}
use Rattle.tallies.proofs.column.TallyColumn.merge_counts.Goals as goal

pub merge_each-requires-clause-few : goal.merge_each-requires-clause-few
merge_each-requires-clause-few c =
    cells_few counted agg.Rows agg.Rows (λ s t. refl) (show_column c.args.self.now) c.in-Rows.counts.items (ap show_column c.in-Rows.is)
    c.deref_mut.result.now c.args.ids.now (map counted c.args.others.now) c.deref_mut.ensures.value c.requires.few

pub merge_each-requires-in-Count-clause-few : goal.merge_each-requires-in-Count-clause-few
merge_each-requires-in-Count-clause-few c =
    cells_few counted agg.Rows (agg.Count c.in-Count._place) (λ s t. refl) (show_column c.args.self.now) c.in-Count.counts.items (ap show_column c.in-Count.is)
    c.deref_mut-in-Count.result.now c.args.ids.now (map counted c.args.others.now) c.deref_mut-in-Count.ensures.value c.requires.few

pub returns-in-Rows : goal.returns-in-Rows
returns-in-Rows c =
    let v = c.in-Rows.counts in
    cells_merged counted agg.Rows agg.Rows (λ s t. refl) (show_column c.args.self.now) v.items (ap show_column c.in-Rows.is)
    c.deref_mut.result.now c.args.ids.now (map counted c.args.others.now) c.deref_mut.ensures.value
    v.len c.merge_each.new.cells v.ok.0 c.merge_each.auto.cells c.merge_each.ensures

pub returns-in-Count : goal.returns-in-Count
returns-in-Count c =
    let v = c.in-Count.counts in
    cells_merged counted agg.Rows (agg.Count c.in-Count._place) (λ s t. refl) (show_column c.args.self.now) v.items (ap show_column c.in-Count.is)
    c.deref_mut-in-Count.result.now c.args.ids.now (map counted c.args.others.now) c.deref_mut-in-Count.ensures.value
    v.len c.merge_each-in-Count.new.cells v.ok.0 c.merge_each-in-Count.auto.cells c.merge_each-in-Count.ensures

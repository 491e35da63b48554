use Rattle.std.proofs.Common.{ap, map, refl}
use Rattle.evaluate.specs.Aggs as agg
use Rattle.tallies.specs.Columns.{show_column, show_total}
use Rattle.tallies.proofs.MergedLemmas.{cells_few, cells_merged}
use Rattle.tallies.proofs.column.TallyColumn.merge_sums.Goals as goal

pub merge_each-requires-clause-few : goal.merge_each-requires-clause-few
merge_each-requires-clause-few c =
    cells_few show_total (agg.Sum 0) (agg.Sum c.in-Sum._place) (λ s t. refl) (show_column c.args.self.now) c.in-Sum.totals.items (ap show_column c.in-Sum.is)
    c.deref_mut.result.now c.args.ids.now (map show_total c.args.others.now) c.deref_mut.ensures.value c.requires.few

pub returns : goal.returns
returns c =
    let v = c.in-Sum.totals in
    cells_merged show_total (agg.Sum 0) (agg.Sum c.in-Sum._place) (λ s t. refl) (show_column c.args.self.now) v.items (ap show_column c.in-Sum.is)
    c.deref_mut.result.now c.args.ids.now (map show_total c.args.others.now) c.deref_mut.ensures.value
    v.len c.merge_each.new.cells v.ok.0 c.merge_each.auto.cells c.merge_each.ensures

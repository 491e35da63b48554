use Rattle.std.proofs.Common.{◌∙◌, None, ap, refl}
use Rattle.evaluate.specs.Aggs as agg
use Rattle.tallies.specs.Prelude.{agg_at, bettered, counted, show_column, show_item, show_number, show_total}
use Rattle.tallies.proofs.ColumnLemmas.{column_grown, none_end}
use Rattle.tallies.proofs.TallyLemmas.{no_numbers}
use Rattle.tallies.proofs.column.TallyColumn.grow.Goals as goal

pub returns-in_ok-pad-in-Rows : goal.returns-in_ok-pad-in-Rows
returns-in_ok-pad-in-Rows c =
    let v = c.in-Rows.counts in
    let s = show_column c.args.self.now in
    let is = ap show_column c.in-Rows.is in
    column_grown counted agg.Rows s c.args.groups v.items c.pad.new.cells.items 0 is refl
    c.in_ok-pad-in-Rows.ensures

pub returns-in_ok-pad-in-Count : goal.returns-in_ok-pad-in-Count
returns-in_ok-pad-in-Count c =
    let v = c.in-Count.counts in
    let a = agg.Count c.in-Count._place in
    let s = show_column c.args.self.now in
    let is = ap show_column c.in-Count.is in
    column_grown counted a s c.args.groups v.items c.pad-in-Count.new.cells.items 0 is refl
    c.in_ok-pad-in-Count.ensures

pub returns-in_ok-pad-in-Sum : goal.returns-in_ok-pad-in-Sum
returns-in_ok-pad-in-Sum c =
    let v = c.in-Sum.totals in
    let x = c.no_total.result in
    let a = agg.Sum c.in-Sum._place in
    let s = show_column c.args.self.now in
    let is = ap show_column c.in-Sum.is in
    column_grown show_total a s c.args.groups v.items c.pad-in-Sum.new.cells.items x is (no_numbers x.count x.sum c.no_total.ensures.count)
    c.in_ok-pad-in-Sum.ensures

pub returns-in_ok-pad-in-Numbers : goal.returns-in_ok-pad-in-Numbers
returns-in_ok-pad-in-Numbers c =
    let v = c.in-Numbers.numbers in
    let x = c.none.result in
    let a = agg_at c.in-Numbers._end c.in-Numbers._place in
    let s = show_column c.args.self.now in
    let is = ap show_column c.in-Numbers.is in
    column_grown show_number a s c.args.groups v.items c.pad-in-Numbers.new.cells.items x is (ap bettered c.none.ensures ∙ none_end c.in-Numbers._end c.in-Numbers._place)
    c.in_ok-pad-in-Numbers.ensures

pub returns-in_ok-push_empty-in-Items : goal.returns-in_ok-push_empty-in-Items
returns-in_ok-push_empty-in-Items c =
    let v = c.in-Items.items in
    let s = show_column c.args.self.now in
    column_grown show_item (agg_at c.in-Items._end c.in-Items._place) s c.args.groups v.items c.push_empty.new.items.items None (ap show_column c.in-Items.is)
    (none_end c.in-Items._end c.in-Items._place) c.in_ok-push_empty-in-Items.ensures

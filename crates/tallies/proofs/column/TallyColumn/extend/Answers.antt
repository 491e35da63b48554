use Rattle.std.proofs.Common.{◌≡◌, ◌∙◌, [], List, OnOk, ap, length, map, subst, sym}
use Rattle.arrays.specs.Batch.{Row, row_of}
use Rattle.tallies.specs.Prelude.{ColumnShape, column_of, padded, show_column, spread}
use Rattle.tallies.proofs.ColumnLemmas.{padded_short, shape_padded}
use Rattle.tallies.proofs.column.TallyColumn.extend.Goals as goal

pub add-requires-clause-few : goal.add-requires-clause-few
add-requires-clause-few c =
    let r = c.requires.few in
    let s = show_column c.args.self.now in
    let t = show_column c.grow.new.self in
    let grows = c.in_ok-grow.ensures in
    let is = shape_padded s t r.0 c.args.groups r.1 grows in
    (padded c.args.groups [] r.0, is ∙ ap (column_of (padded c.args.groups [] r.0)) (sym (ap (λ (x : ColumnShape). x.agg) is)), padded_short c.args.groups (length c.args.rows.now) r.0 c.requires.short r.3)

pub returns : goal.returns
returns c = λ tables h.
    let s = show_column c.args.self.now in
    let t = show_column c.grow.new.self in
    let more : List Row = map (row_of c.args.batch.now.columns) c.args.rows.now in
    let tabs = padded c.args.groups [] tables in
    let is = shape_padded s t tables c.args.groups h c.in_ok-grow.ensures in
    let same : t.agg ≡ s.agg = ap (λ (x : ColumnShape). x.agg) is in
    subst (λ a. OnOk c.add.result (show_column c.add.new.self ≡ column_of (spread c.args.ids.now more tabs) a)) same
    (c.add.ensures tabs (is ∙ ap (column_of tabs) (sym same)))

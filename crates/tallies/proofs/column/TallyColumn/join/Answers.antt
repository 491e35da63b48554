use Rattle.std.proofs.Common.{◌≤◌, arith, length}
use Rattle.tallies.specs.Columns.{show_column}
use Rattle.std.proofs.lemmas.Result.{on_ok_weaker}
use Rattle.tallies.proofs.ColumnLemmas.{shape_padded}
use Rattle.tallies.proofs.MergedLemmas.{join_few, joined, tables_counted}
use Rattle.tallies.proofs.column.TallyColumn.join.Goals as goal

pub merge-requires-clause-few : goal.merge-requires-clause-few
merge-requires-clause-few c =
    let r = c.requires.few in
    let s = show_column c.args.self.now in
    let u = show_column c.grow.new.self in
    let grows = shape_padded s u r.1 c.args.groups r.3 c.in_ok-grow.ensures in
    join_few r.0 c.args.groups r.1 r.2 s (show_column c.args.other.now) c.args.ids.now r.3 r.4 c.requires.same r.5 r.6 c.requires.inside r.7 u grows r.8

pub returns : goal.returns
returns c = λ kinds tables more h g alike others_alike.
    let s = show_column c.args.self.now in
    let u = show_column c.grow.new.self in
    let grows = shape_padded s u tables c.args.groups h c.in_ok-grow.ensures in
    let r = c.requires.few in
    let few : length tables ≤ c.args.groups = omega (arith, r.7, tables_counted s tables h, tables_counted s r.1 r.3) in
    on_ok_weaker c.merge.result
    (joined kinds c.args.groups tables more s (show_column c.args.other.now) c.args.ids.now h g c.requires.same alike others_alike c.requires.inside few u grows (show_column c.merge.new.self))
    c.merge.ensures

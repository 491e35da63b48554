use Rattle.std.proofs.Common.{◌≡◌, ◌∙◌, ◌<◌, ◌≤◌, ◌+◌, ◌^◌, [], List, ap, arith, get_or, length, refl, sym}
use Rattle.std.specs.Prelude.{slice_index_or}
use Rattle.std.proofs.lemmas.List.{get_or-map, length-map}
use Rattle.std.proofs.lemmas.List.Elements.{All-get_or}
use Rattle.arrays.specs.Prelude.{Item, null}
use Rattle.tallies.specs.Prelude.{items_at, tally_of}
use Rattle.tallies.proofs.SpreadLemmas.{alone_few, alone_more, cell_few, cells_more}
use Rattle.tallies.proofs.adding.add_each.Goals as goal

pub with_row-requires-clause-few : goal.with_row-requires-clause-few
with_row-requires-clause-few g c =
    let source = g.S.Source in
    let a = source.agg c.args.source.now in
    let ids = c.args.ids.now in
    let i = c.loop-i.i in
    let n = get_or ids i 0 in
    let r = c.requires.few in
    let within : i < length ids = omega (arith, c.loop-i-test.true, c.requires.lengths) in
    let first = All-get_or (λ n. n < length c.args.cells.now) ids i 0 within c.requires.inside in
    let inside : n < length c.loop-i.cells = omega (arith, first, c.loop-i.auto.cells) in
    let count : length c.args.cells.now ≡ length r.0 = sym (length-map c.args.cells.now source.show) ∙ ap length r.1 ∙ length-map r.0 (tally_of a) in
    let bound = All-get_or (λ (xs : List Item). length xs + length c.args.rows.now ≤ 2 ^ 40) r.0 n [] (omega (arith, first, count)) r.2 in
    cell_few source.show a c.loop-i.cells r.0 ids (items_at (source.items c.args.source.now) c.args.rows.now) n c.index-cells-id.result i (2 ^ 40)
    (c.loop-i.invariant r.0 r.1) inside c.index-cells-id.is (omega (arith, bound, c.requires.lengths)) within

pub loop-i-preserved : goal.loop-i-preserved
loop-i-preserved g c = λ groups h.
    let source = g.S.Source in
    let a = source.agg c.args.source.now in
    let seen = source.items c.args.source.now in
    let ids = c.args.ids.now in
    let rows = c.args.rows.now in
    let i = c.loop-i.i in
    let n = get_or ids i 0 in
    let x = slice_index_or seen (get_or rows i 0) null in
    let within : i < length ids = omega (arith, c.loop-i-test.true, c.requires.lengths) in
    let first = All-get_or (λ n. n < length c.args.cells.now) ids i 0 within c.requires.inside in
    let inside : n < length c.loop-i.cells = omega (arith, first, c.loop-i.auto.cells) in
    cells_more source.show a c.args.cells.now c.loop-i.cells _ groups ids (items_at seen rows) i c.index-cells-id.result c.with_row.result x n
    within (length-map rows (λ r. slice_index_or seen r null) ∙ sym c.requires.lengths) refl
    (sym (get_or-map (λ r. slice_index_or seen r null) rows i 0 x c.loop-i-test.true))
    (c.loop-i.invariant groups h) inside c.index-cells-id.is c.with_row.ensures refl

pub with_rows-requires-clause-few : goal.with_rows-requires-clause-few
with_rows-requires-clause-few g c =
    let source = g.S.Source in
    let r = c.requires.few in
    alone_few source.show (source.agg c.args.source.now) c.args.cells.now r.0 c.index-cells-0.result (length c.args.rows.now) (2 ^ 40) c.if-cells-eq1.true r.1 c.index-cells-0.is r.2

pub returns-then-cells-eq1 : goal.returns-then-cells-eq1
returns-then-cells-eq1 g c = λ groups h.
    let source = g.S.Source in
    let items = items_at (source.items c.args.source.now) c.args.rows.now in
    alone_more source.show (source.agg c.args.source.now) c.args.cells.now groups c.args.ids.now items c.index-cells-0.result c.with_rows.result c.if-cells-eq1.true
    (c.requires.lengths ∙ sym (length-map c.args.rows.now (λ r. slice_index_or (source.items c.args.source.now) r null))) c.requires.inside h c.index-cells-0.is c.with_rows.ensures

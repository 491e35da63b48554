use Rattle.std.proofs.Common.{◌≡◌, ◌∙◌, ◌<◌, ◌+◌, ◌++◌, ◌∷◌, [], ap, append_assoc, arith, get_or, length, length-append, sym, take}
use Rattle.std.specs.Prelude.{slice_index_or}
use Rattle.std.proofs.lemmas.List.{get_or-map, length-map, take_all, take_more}
use Rattle.arrays.specs.Prelude.{null}
use Rattle.tallies.specs.Prelude.{TallyShape, items_at, tally_of}
use Rattle.tallies.proofs.SpreadLemmas.{length_taken}
use Rattle.tallies.proofs.TallyLemmas.{counts_few}
use Rattle.tallies.proofs.adding.with_rows.Goals as goal

pub with_row-whole-requires-clause-few : goal.with_row-whole-requires-clause-few
with_row-whole-requires-clause-few g c =
    let source = g.S.Source in
    let a = source.agg c.args.source.now in
    let r = c.requires.few in
    let i = c.loop-row.row-index in
    let front = take i (items_at (source.items c.args.source.now) c.args.rows.now) in
    omega (
      arith,
      ap (λ (t : TallyShape). t.count) (c.loop-row.invariant r.0 r.1),
      counts_few (r.0 ++ front) a,
      length-append r.0 front,
      length_taken i (items_at (source.items c.args.source.now) c.args.rows.now),
      c.loop-row-test.true,
      r.2,
    )

pub loop-row-preserved : goal.loop-row-preserved
loop-row-preserved g c = λ xs h.
    let source = g.S.Source in
    let a = source.agg c.args.source.now in
    let seen = source.items c.args.source.now in
    let rows = c.args.rows.now in
    let i = c.loop-row.row-index in
    let items = items_at seen rows in
    let x = slice_index_or seen (get_or rows i 0) null in
    let below : i < length items = omega (arith, c.loop-row-test.true, length-map rows (λ r. slice_index_or seen r null)) in
    let more : take (i + 1) items ≡ take i items ++ x ∷ [] =
    take_more items i null below ∙ ap (λ y. take i items ++ y ∷ []) (get_or-map (λ r. slice_index_or seen r null) rows i 0 null c.loop-row-test.true) in
    c.with_row-whole.ensures (xs ++ take i items) (c.loop-row.invariant xs h) ∙ ap (tally_of a) (append_assoc xs (take i items) (x ∷ []) ∙ ap (λ l. xs ++ l) (sym more))

pub returns : goal.returns
returns g c = λ xs h.
    let source = g.S.Source in
    let a = source.agg c.args.source.now in
    let seen = source.items c.args.source.now in
    let items = items_at seen c.args.rows.now in
    c.loop-row.invariant xs h ∙ ap (λ l. tally_of a (xs ++ l))
    (take_all c.loop-row.row-index items (omega (arith, c.loop-row-test.false, length-map c.args.rows.now (λ r. slice_index_or seen r null))))

use Rattle.std.proofs.Common.{◌<◌, arith, get_or, length, refl}
use Rattle.std.proofs.lemmas.List.Elements.{All-get_or}
use Rattle.tallies.proofs.MergedLemmas.{merge_few, merge_next}
use Rattle.tallies.proofs.merging.merge_each.Goals as goal

pub both-requires : goal.both-requires
both-requires g c =
    let how = g.M.Merge in
    let ids = c.args.ids.now in
    let others = c.args.others.now in
    let i = c.loop-i.i in
    let n = get_or ids i 0 in
    let within : i < length ids = omega (arith, c.loop-i-test.true, c.requires.lengths) in
    let first = All-get_or (λ n. n < length c.args.cells.now) ids i 0 within c.requires.inside in
    let inside : n < length c.loop-i.cells = omega (arith, first, c.loop-i.auto.cells) in
    record {
      few = merge_few how.show (how.agg c.args.how.now) c.args.cells.now c.loop-i.cells others ids i n c.index-cells-id.result c.index-others-i.result
          within c.requires.lengths refl c.index-others-i.is c.loop-i.invariant inside c.index-cells-id.is c.requires.inside c.requires.few;
    }

pub loop-i-preserved : goal.loop-i-preserved
loop-i-preserved g c =
    let how = g.M.Merge in
    let ids = c.args.ids.now in
    let others = c.args.others.now in
    let i = c.loop-i.i in
    let n = get_or ids i 0 in
    let within : i < length ids = omega (arith, c.loop-i-test.true, c.requires.lengths) in
    let first = All-get_or (λ n. n < length c.args.cells.now) ids i 0 within c.requires.inside in
    let inside : n < length c.loop-i.cells = omega (arith, first, c.loop-i.auto.cells) in
    merge_next how.show (how.agg c.args.how.now) c.args.cells.now c.loop-i.cells others ids i n c.index-cells-id.result c.index-others-i.result
    within c.requires.lengths refl c.index-others-i.is c.loop-i.invariant inside c.index-cells-id.is _ c.both.result c.both.ensures refl

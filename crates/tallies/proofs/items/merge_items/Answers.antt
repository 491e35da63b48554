use Rattle.std.proofs.Common.{◌∙◌, ◌<◌, ap, arith, get_or, length, option_map, refl, sym}
use Rattle.std.proofs.lemmas.List.Elements.{All-get_or}
use Rattle.group.specs.Prelude.{item_of_ref, scalar_item}
use Rattle.tallies.specs.Prelude.{agg_at, bettered, show_item, with_item}
use Rattle.tallies.proofs.MergedLemmas.{merge_next, merged_end, with_better}
use Rattle.tallies.proofs.items.merge_items.Goals as goal

pub loop-i-preserved : goal.loop-i-preserved
loop-i-preserved c =
    let end = c.args.end in
    let ids = c.args.ids.now in
    let others = c.args.others.now in
    let i = c.loop-i.i in
    let n = get_or ids i 0 in
    let cell = c.index-bests-id.result in
    let other = c.index-others-i.result in
    let within : i < length ids = omega (arith, c.loop-i-test.true, c.requires.lengths) in
    let first = All-get_or (λ n. n < length c.args.bests.now) ids i 0 within c.requires.inside in
    let inside : n < length c.loop-i.bests = omega (arith, first, c.loop-i.auto.bests) in
    merge_next show_item (agg_at end 0) c.args.bests.now c.loop-i.bests others ids i n cell other
    within c.requires.lengths refl c.index-others-i.is c.loop-i.invariant inside c.index-bests-id.is _ c.put_better.new.best
    (ap bettered (c.in_ok-put_better.ensures
    ∙ ap (λ b. with_item end (option_map scalar_item b) (item_of_ref c.of.result)) (sym c.index-bests-id.is)
    ∙ ap (with_item end (option_map scalar_item cell)) c.of.ensures
    ∙ with_better end (option_map scalar_item cell) other)
    ∙ sym (merged_end end 0 (show_item cell) (show_item other))) refl

use Rattle.std.proofs.Common.{◌≡◌, ◌∙◌, ◌<◌, ap, arith, get_or, length, option_map, refl, sym}
use Rattle.std.specs.Prelude.{slice_index_or}
use Rattle.std.proofs.lemmas.List.{get_or-map, length-map}
use Rattle.std.proofs.lemmas.List.Elements.{All-get_or}
use Rattle.std.proofs.lemmas.Option.{get_or_from_slice_get}
use Rattle.arrays.specs.Prelude.{null}
use Rattle.group.specs.Prelude.{item_of_ref, scalar_item}
use Rattle.tallies.specs.Prelude.{agg_at, items_at, show_item, with_item}
use Rattle.tallies.proofs.SpreadLemmas.{cells_more}
use Rattle.tallies.proofs.TallyLemmas.{item_bettered}
use Rattle.tallies.proofs.items.add_items.Goals as goal

pub loop-i-preserved : goal.loop-i-preserved
loop-i-preserved c = λ groups h.
    let end = c.args.end in
    let seen = c.args.view.now.items in
    let ids = c.args.ids.now in
    let rows = c.args.rows.now in
    let i = c.loop-i.i in
    let n = get_or ids i 0 in
    let cell = c.index-bests-id.result in
    let x = slice_index_or seen (get_or rows i 0) null in
    let value = item_of_ref c.at-value.result in
    let here : x ≡ value = get_or_from_slice_get seen (get_or rows i 0) value null c.at-value.ensures in
    let within : i < length ids = omega (arith, c.loop-i-test.true, c.requires.lengths) in
    let first = All-get_or (λ n. n < length c.args.bests.now) ids i 0 within c.requires.inside in
    let inside : n < length c.loop-i.bests = omega (arith, first, c.loop-i.auto.bests) in
    cells_more show_item (agg_at end 0) c.args.bests.now c.loop-i.bests _ groups ids (items_at seen rows) i cell c.put_better.new.best x n
    within (length-map rows (λ r. slice_index_or seen r null) ∙ sym c.requires.lengths) refl
    (sym (get_or-map (λ r. slice_index_or seen r null) rows i 0 x c.loop-i-test.true))
    (c.loop-i.invariant groups h) inside c.index-bests-id.is
    (λ xs e. item_bettered end 0 (option_map scalar_item cell) (option_map scalar_item c.put_better.new.best) xs x
    (c.in_ok-put_better.ensures ∙ ap (λ b. with_item end (option_map scalar_item b) value) (sym c.index-bests-id.is) ∙ ap (with_item end (option_map scalar_item cell)) (sym here)) e) refl

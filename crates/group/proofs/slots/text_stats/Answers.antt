use Rattle.std.proofs.Common.{◌∙◌, ℕ, ◌+◌, List, Some, take, option_map, Option, Bor, ap, arith}
use Rattle.std.specs.Option.{option_copied}
use Rattle.arrays.specs.Prelude.{item_of_text, null, text}
use Rattle.group.proofs.TallyLemmas.{walk-value, walk-null, take-item, text_is}
use Rattle.group.proofs.slots.text_stats.Goals as goal
use Rattle.group.proofs.slots.text_stats.Goals.{in-Some, in-None}

pub loop-i-preserved : goal.loop-i-preserved
loop-i-preserved c =
    let s = c.args.view.now in
    let i = c.loop-i.i in
    let items = take i s.items in
    let shown = λ (o : Option (Bor (List ℕ))). option_map (λ (t : Bor (List ℕ)). text t.now) o in
    let reported = λ (o : Option (Bor (List ℕ))). Some (item_of_text (option_copied o)) in
    elim c.match-text_at.branch [
      | in-Some w ↦ (
          let x = text w.in-Some.text.now in
          let grown = take-item s.items i x (c.text_at.ensures ∙ ap reported w.in-Some.is) in record {
            tally = walk-value s.kind c.loop-i.nulls c.match-text_at.nulls (shown c.loop-i.least) (shown c.loop-i.greatest) (shown c.match-text_at.least) (shown c.match-text_at.greatest) items (take (i + 1) s.items) x
                c.loop-i.invariant.tally (text_is s.kind w.in-Some.text.now c.requires) grown w.nulls-is
                (ap shown w.least-is ∙ ap Some w.lesser.ensures)
                (ap shown w.greatest-is ∙ ap Some w.greater.ensures);
            few = omega (arith, w.nulls-is, c.loop-i.invariant.few);
          })
      | in-None w ↦ (
          let grown = take-item s.items i null (c.text_at.ensures ∙ ap reported w.in-None.is) in record {
            tally = walk-null s.kind c.loop-i.nulls c.match-text_at.nulls (shown c.loop-i.least) (shown c.loop-i.greatest) (shown c.match-text_at.least) (shown c.match-text_at.greatest) items (take (i + 1) s.items)
                c.loop-i.invariant.tally grown w.nulls-is (ap shown w.least-is) (ap shown w.greatest-is);
            few = omega (arith, w.nulls-is, c.loop-i.invariant.few);
          })
    ]

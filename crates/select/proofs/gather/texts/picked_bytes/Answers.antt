use Rattle.std.proofs.Common.{◌∙◌, ◌+◌, ◌++◌, ◌∷◌, [], take, ap, sym, arith}
use Rattle.std.specs.Option.{option_copied}
use Rattle.arrays.specs.Prelude.{item_of_text, items_of_texts}
use Rattle.select.specs.Prelude.{IsPick, all_bytes, picked}
use Rattle.select.proofs.PickLemmas.{all-at, picked-all, picked-more}
use Rattle.select.proofs.RestLemmas.{is_next, some_left}
use Rattle.select.proofs.TextLemmas.{bytes-more}
use Rattle.select.proofs.gather.texts.picked_bytes.Goals as goal

pub next-row-requires : goal.next-row-requires
next-row-requires g c =
    some_left _ (g.R.Rows.picks c.args.rows.now) c.loop-slot._slot c.loop-slot.invariant.reported (omega (arith, c.slots-count.ensures.count, c.loop-slot-test.true))

pub text_at-requires : goal.text_at-requires
text_at-requires g c =
    let picks = g.R.Rows.picks c.args.rows.now in
    let next = is_next picks c.loop-slot._slot c.next-row.result _ _ c.loop-slot.invariant.reported c.next-row.ensures in
    all-at (IsPick c.args.texts.now.slots) picks c.loop-slot._slot c.next-row.result c.requires.within next.here

pub loop-slot-preserved : goal.loop-slot-preserved
loop-slot-preserved g c =
    let picks = g.R.Rows.picks c.args.rows.now in
    let items = items_of_texts c.args.texts.now in
    let j = c.loop-slot._slot in
    let old = picked items (take j picks) in
    let next = is_next picks j c.next-row.result _ _ c.loop-slot.invariant.reported c.next-row.ensures in
    record {
      reported = next.rest;
      filled =
          bytes-more old (picked items (take (j + 1) picks)) c.loop-slot.bytes.items c.push_text.new.bytes.items (item_of_text (option_copied c.text_at.result)) c.loop-slot.invariant.filled
          (picked-more items picks j c.next-row.result next.here ∙ ap (λ y. old ++ y ∷ []) (sym c.text_at.ensures)) c.in_ok-push_text.ensures;
    }

pub returns : goal.returns
returns g c =
    c.loop-slot.invariant.filled
    ∙ ap all_bytes (picked-all (items_of_texts c.args.texts.now) (g.R.Rows.picks c.args.rows.now) c.loop-slot._slot (omega (arith, c.slots-count.ensures.count, c.loop-slot-test.false)))

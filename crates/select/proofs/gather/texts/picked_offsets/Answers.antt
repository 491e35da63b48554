use Rattle.std.proofs.Common.{rules, ◌≡◌, ◌∙◌, ◌+◌, ◌≤◌, ◌++◌, ◌∷◌, [], List, take, ap, sym, subst, arith, pos, refl}
use Rattle.std.specs.Option.{option_copied}
use Rattle.arrays.specs.Prelude.{Item, bytes_of_number, is_full, item_of_text, items_of_texts, most_of, offset_type, text_length}
use Rattle.select.specs.Prelude.{AreOffsetsOf, IsPick, picked}
use Rattle.select.proofs.ListLemmas.{full_of_all}
use Rattle.select.proofs.PickLemmas.{all-at, picked-all, picked-more}
use Rattle.select.proofs.RestLemmas.{is_next, some_left}
use Rattle.select.proofs.TextLemmas.{offsets-more, offsets-none, full-offsets}
use Rattle.select.proofs.gather.texts.picked_offsets.Goals as goal

pub next-row-requires : goal.next-row-requires
next-row-requires g c =
    some_left _ (g.R.Rows.picks c.args.rows.now) c.loop-slot._slot c.loop-slot.invariant.reported (omega (arith, c.slots-count.ensures.count, c.loop-slot-test.true))

pub text_at-requires : goal.text_at-requires
text_at-requires g c =
    let picks = g.R.Rows.picks c.args.rows.now in
    let next = is_next picks c.loop-slot._slot c.next-row.result _ _ c.loop-slot.invariant.reported c.next-row.ensures in
    all-at (IsPick c.args.texts.now.slots) picks c.loop-slot._slot c.next-row.result c.requires.within next.here

pub loop-slot-init : goal.loop-slot-init
loop-slot-init g c =
    let is : c.push.new.bytes.items ≡ bytes_of_number (offset_type c.args.width) (pos 0) = search rules in
    record { reported = c.first-place.ensures; laid = offsets-none c.args.width c.push.new.bytes.items is }

pub returns-in_err-end-clause-err : goal.returns-in_err-end-clause-err
returns-in_err-end-clause-err g c =
    let picks = g.R.Rows.picks c.args.rows.now in
    let items = items_of_texts c.args.texts.now in
    let j = c.loop-slot._slot in
    let x = item_of_text (option_copied c.text_at.result) in
    let next = is_next picks j c.next-row.result _ _ c.loop-slot.invariant.reported c.next-row.ensures in
    full_of_all c.from_residual-in_err-end.result c.in_err-end.field-0.0 _ _ c.from_residual-in_err-end.ensures.1 c.in_err-end.ensures.err
    (full-offsets c.args.width items picks j c.next-row.result c.loop-slot.offsets.items c.loop-slot.end (text_length x) x next.here c.loop-slot.invariant.laid c.text_at.ensures refl)

pub loop-slot-preserved : goal.loop-slot-preserved
loop-slot-preserved g c =
    let w = c.args.width in
    let picks = g.R.Rows.picks c.args.rows.now in
    let items = items_of_texts c.args.texts.now in
    let j = c.loop-slot._slot in
    let offsets = c.loop-slot.offsets.items in
    let more = c.push-in-loop-slot.new.bytes.items in
    let old = picked items (take j picks) in
    let longer = picked items (take (j + 1) picks) in
    let o = option_copied c.text_at.result in
    let size = text_length (item_of_text o) in
    let next = is_next picks j c.next-row.result _ _ c.loop-slot.invariant.reported c.next-row.ensures in
    let end_is = c.in_ok-end.ensures.ok in
    record {
      reported = next.rest;
      laid =
          subst (AreOffsetsOf w longer more) (sym end_is)
          (offsets-more w old longer offsets more c.loop-slot.end size o (item_of_text o) c.loop-slot.invariant.laid refl
          (picked-more items picks j c.next-row.result next.here ∙ ap (λ y. old ++ y ∷ []) (sym c.text_at.ensures)) refl (subst (λ n. n ≤ most_of w) end_is c.in_ok-end.ensures.short)
          (c.in_ok-push-2.ensures.ok ∙ ap (λ n. offsets ++ bytes_of_number (offset_type w) (pos n)) end_is));
    }

pub returns-clause-ok : goal.returns-clause-ok
returns-clause-ok g c =
    let picks = g.R.Rows.picks c.args.rows.now in
    subst (λ (items : List Item). AreOffsetsOf c.args.width items c.loop-slot.offsets.items c.loop-slot.end)
    (picked-all (items_of_texts c.args.texts.now) picks c.loop-slot._slot (omega (arith, c.slots-count.ensures.count, c.loop-slot-test.false))) c.loop-slot.invariant.laid

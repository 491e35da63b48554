use Rattle.std.proofs.Common.{◌∙◌, All, List, ap, subst, sym}
use Rattle.arrays.specs.Prelude.{Item}
use Rattle.select.specs.Prelude.{AreOffsetsOf, IsPick, all_bytes, picked}
use Rattle.select.proofs.TextLemmas.{most-counted, texts_done}
use Rattle.select.proofs.gather.texts.gather.Goals as goal

pub picked_bytes-requires-clause-size : goal.picked_bytes-requires-clause-size
picked_bytes-requires-clause-size g c = most-counted c.args.width c.in_ok-laid.laid.end c.in_ok-laid.ensures.ok.fresh.short

pub from_texts-requires : goal.from_texts-requires
from_texts-requires g c =
    let texts = c.texts-texts.result in
    let same = c.texts-texts.ensures.items in
    let picks = g.R.Rows.picks c.args.rows.now in
    let done =
    texts_done c.args.width texts.offsets texts.bytes.now c.args.view.now picks c.slots.result c.in_ok-laid.laid.end c.in_ok-laid.laid.offsets.items c.in_ok-from_vec.field-0 c.in_ok-filled.filled.items
    c.in_ok-bytes.bytes texts.validity c.in_ok-picked_validity.field-0 c.texts-texts.ensures.texts c.requires.within
    (subst (λ (l : List Item). AreOffsetsOf c.args.width (picked l picks) c.in_ok-laid.laid.offsets.items c.in_ok-laid.laid.end) same c.in_ok-laid.ensures.ok) c.slots.ensures.count c.slots.ensures.short
    c.texts-texts.ensures.validity c.in_ok-picked_validity.ensures c.in_ok-from_vec.ensures (c.in_ok-filled.ensures ∙ ap (λ l. all_bytes (picked l picks)) same) c.in_ok-bytes.ensures in
    record { short = c.slots.ensures.short; validity = done.long; offsets = done.bounds; texts = done.texts }

pub returns-clause-ok : goal.returns-clause-ok
returns-clause-ok g c =
    let texts = c.texts-texts.result in
    let same = c.texts-texts.ensures.items in
    let picks = g.R.Rows.picks c.args.rows.now in
    let done =
    texts_done c.args.width texts.offsets texts.bytes.now c.args.view.now picks c.slots.result c.in_ok-laid.laid.end c.in_ok-laid.laid.offsets.items c.in_ok-from_vec.field-0 c.in_ok-filled.filled.items
    c.in_ok-bytes.bytes texts.validity c.in_ok-picked_validity.field-0 c.texts-texts.ensures.texts c.requires.within
    (subst (λ (l : List Item). AreOffsetsOf c.args.width (picked l picks) c.in_ok-laid.laid.offsets.items c.in_ok-laid.laid.end) same c.in_ok-laid.ensures.ok) c.slots.ensures.count c.slots.ensures.short
    c.texts-texts.ensures.validity c.in_ok-picked_validity.ensures c.in_ok-from_vec.ensures (c.in_ok-filled.ensures ∙ ap (λ l. all_bytes (picked l picks)) same) c.in_ok-bytes.ensures in
    c.in_ok-from_texts.ensures ∙ done.shows

pub picked_offsets-requires : goal.picked_offsets-requires
picked_offsets-requires g c = record { within = subst (λ n. All (IsPick n) (g.R.Rows.picks c.args.rows.now)) (sym c.texts-texts.ensures.slots) c.requires.within }

pub picked_bytes-requires-clause-within : goal.picked_bytes-requires-clause-within
picked_bytes-requires-clause-within g c = subst (λ n. All (IsPick n) (g.R.Rows.picks c.args.rows.now)) (sym c.texts-texts.ensures.slots) c.requires.within

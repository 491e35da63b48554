use Rattle.std.proofs.Common.{◌≡◌, ◌∙◌, IfOk, ap, subst}
use Rattle.types.specs.Kind as kind
use Rattle.layout.specs.Prelude.{Reading, Seen}
use Rattle.arrays.proofs.FromPartsLemmas.{read_same, read_texts, show_read_texts}
use Rattle.arrays.proofs.array.Array.from_texts.Goals as goal

pub plain-requires : goal.plain-requires
plain-requires c =
    let same = read_same _ (kind.texts c.args.slots.width) _ c.args.slots.len _ _ _ c.of_texts.ensures.kind c.from.ensures c.in_ok-vec.ensures.items c.new.ensures.items in
    ap (λ (r : Reading). r.fault) same ∙ read_texts c.args.slots.width c.args.slots.len c.args.slots.validity c.args.slots.offsets c.args.bytes c.requires.short c.requires.validity c.requires.offsets c.requires.texts

pub returns : goal.returns
returns c =
    let same = read_same _ (kind.texts c.args.slots.width) _ c.args.slots.len _ _ _ c.of_texts.ensures.kind c.from.ensures c.in_ok-vec.ensures.items c.new.ensures.items in
    subst (λ (s : Seen). IfOk c.plain.result (λ a. a ≡ s)) (ap (λ (r : Reading). r.seen) same ∙ show_read_texts c.args.slots.width c.args.slots.len c.args.slots.validity c.args.slots.offsets c.args.bytes) c.plain.ensures

use Rattle.std.proofs.Common.{◌∙◌, IsUtf8, ap, cond, subst, sym}
use Rattle.std.proofs.lemmas.Str.{IsUtf8-from_is_utf8}
use Rattle.layout.specs.Prelude.{null, of_slot, text}
use Rattle.arrays.proofs.SlotLemmas.{items-slot}
use Rattle.arrays.proofs.view.texts.Texts.get.Goals as goal

pub from_utf8_unchecked-requires : goal.from_utf8_unchecked-requires
from_utf8_unchecked-requires c =
    let t = c.args.self.now in
    let i = c.args.i in
    subst IsUtf8 (sym c.read-text.ensures) (IsUtf8-from_is_utf8 (of_slot t.offsets t.bytes.now i) (t.utf8 i c.requires (sym c.is_valid.ensures ∙ c.if-is_valid.true)))

pub returns-then-is_valid-clause-item : goal.returns-then-is_valid-clause-item
returns-then-is_valid-clause-item c =
    let t = c.args.self.now in
    let i = c.args.i in
    items-slot (λ j. text (of_slot t.offsets t.bytes.now j)) t.validity t.slots i c.requires
    ∙ ap (λ b. cond b (text (of_slot t.offsets t.bytes.now i)) null) (sym c.is_valid.ensures ∙ c.if-is_valid.true)
    ∙ ap text (sym (c.from_utf8_unchecked.ensures ∙ c.read-text.ensures))

pub returns-else-is_valid-clause-item : goal.returns-else-is_valid-clause-item
returns-else-is_valid-clause-item c =
    let t = c.args.self.now in
    let i = c.args.i in
    items-slot (λ j. text (of_slot t.offsets t.bytes.now j)) t.validity t.slots i c.requires
    ∙ ap (λ b. cond b (text (of_slot t.offsets t.bytes.now i)) null) (sym c.is_valid.ensures ∙ c.if-is_valid.false)

use Rattle.std.proofs.Common.{◌∙◌, ap, subst, sym}
use Rattle.std.proofs.lemmas.Result.{IfOk-weaker}
use Rattle.arrays.specs.Prelude.{AreTexts, TextColumn, cut_texts, shown}
use Rattle.types.specs.Kind as kind
use Rattle.arrays.proofs.LaidLemmas.{shown-texts, texts-laid}
use Rattle.arrays.proofs.builder.texts.TextBuilder.finish.Goals as goal

pub from_texts-requires-clause-texts : goal.from_texts-requires-clause-texts
from_texts-requires-clause-texts c =
    let s = c.self.inside in
    let slots = c.in_ok-slots.slots in
    subst (AreTexts slots.width slots.len slots.validity slots.offsets) (sym c.in_ok-bytes.ensures)
    (texts-laid slots.width s.slots.lengths slots.len slots.validity slots.offsets s.bytes.items c.in_ok-slots.ensures.laid c.self.invariant.texts)

pub returns : goal.returns
returns c =
    let s = c.self.inside in
    let slots = c.in_ok-slots.slots in
    IfOk-weaker c.from_texts.result _ _
    (λ a is. is
    ∙ shown-texts slots.width s.slots.lengths slots.len slots.validity slots.offsets c.in_ok-bytes.bytes c.in_ok-slots.ensures.laid
    ∙ ap (λ w. shown (kind.texts w) (cut_texts s.slots.lengths c.in_ok-bytes.bytes)) c.in_ok-slots.ensures.width
    ∙ ap (λ bytes. shown (kind.texts s.slots.width) (cut_texts s.slots.lengths bytes)) c.in_ok-bytes.ensures
    ∙ ap (λ (q : TextColumn). shown (kind.texts q.width) q.items) c.self.view_is)
    c.from_texts.ensures

use Rattle.std.proofs.Common.{◌≡◌, ◌∙◌, is_some, ap, false, subst, sym}
use Rattle.arrays.specs.Prelude.{HasTexts, Seen}
use Rattle.kernels.proofs.NullLemmas.{holds_named}
use Rattle.kernels.proofs.nulls.may_have_null_entries.Goals as goal

pub returns : goal.returns
returns c = λ h.
    let s = c.args.view.now in
    let texts = c.texts.result in
    let has_texts = subst (HasTexts texts.offsets texts.bytes.now) c.entries-entries.ensures c.texts.ensures.texts in
    let none : is_some s.entries.validity ≡ false = ap is_some (sym (c.validity.ensures ∙ ap (λ (q : Seen). q.validity) c.entries-entries.ensures)) ∙ sym c.is_some.ensures ∙ h in
    holds_named s c.codes-codes.result c.numbers.result.now texts.offsets texts.bytes.now c.codes-codes.ensures.value c.codes-codes.ensures.items c.codes-codes.ensures.within c.numbers.ensures has_texts none

use Rattle.std.proofs.Common.{◌∙◌, ◌<◌, ◌≤◌, ap, length, subst, sym}
use Rattle.std.proofs.lemmas.Str.{is_utf8-from_IsUtf8}
use Rattle.layout.specs.Prelude.{AreOffsets, of_slot, text, valid_in}
use Rattle.layout.proofs.OffsetParts.{ends_within}
use Rattle.arrays.specs.Values.{HasTexts}
use Rattle.arrays.proofs.PartLemmas.{texts_of_view}
use Rattle.arrays.proofs.SlotLemmas.{items-seen}
use Rattle.arrays.proofs.view.View.texts.Goals as goal

pub new-requires-clause-enough : goal.new-requires-clause-enough
new-requires-clause-enough c =
    (texts_of_view c.args.width c.self.inside c.args.self.now c.bytes_at-first.result.now c.bytes_at-bytes.result.now c.slots-slots.result c.self.view_is c.requires c.self.invariant.lawful c.self.invariant.within
    c.bytes_at-first.ensures c.bytes_at-bytes.ensures c.slots-slots.ensures.count).there.enough

pub new-requires-clause-counted : goal.new-requires-clause-counted
new-requires-clause-counted c =
    (texts_of_view c.args.width c.self.inside c.args.self.now c.bytes_at-first.result.now c.bytes_at-bytes.result.now c.slots-slots.result c.self.view_is c.requires c.self.invariant.lawful c.self.invariant.within
    c.bytes_at-first.ensures c.bytes_at-bytes.ensures c.slots-slots.ensures.count).there.counted

pub invariant_of-result : goal.invariant_of-result
invariant_of-result c =
    let n = c.slots-slots.result in
    let s = c.args.self.now in
    let bytes = c.bytes_at-bytes.result.now in
    let has : HasTexts c.new.result bytes s =
    subst (λ o. HasTexts o c.bytes_at-bytes.result.now c.args.self.now) (sym c.new.ensures.offsets)
    (texts_of_view c.args.width c.self.inside c.args.self.now c.bytes_at-first.result.now c.bytes_at-bytes.result.now c.slots-slots.result c.self.view_is c.requires c.self.invariant.lawful c.self.invariant.within
    c.bytes_at-first.ensures c.bytes_at-bytes.ensures c.slots-slots.ensures.count).texts in
    let bounds : AreOffsets n c.new.result (length bytes) = subst (λ m. AreOffsets m c.new.result (length bytes)) (sym c.slots-slots.ensures.count) has.bounds in
    record {
      bounds = bounds;
      ends = ends_within n c.new.result (length bytes) bounds;
      utf8 =
          λ j below valid.
          is_utf8-from_IsUtf8 (of_slot c.new.result bytes j)
          (has.utf8 j (subst (λ m. j < m) c.slots-slots.ensures.count below) (ap (λ v. valid_in v j) (sym c.validity-validity.ensures) ∙ valid));
      short = c.slots-slots.ensures.short;
    }

pub returns-clause-texts : goal.returns-clause-texts
returns-clause-texts c =
    subst (λ o. HasTexts o c.bytes_at-bytes.result.now c.args.self.now) (sym c.new.ensures.offsets)
    (texts_of_view c.args.width c.self.inside c.args.self.now c.bytes_at-first.result.now c.bytes_at-bytes.result.now c.slots-slots.result c.self.view_is c.requires c.self.invariant.lawful c.self.invariant.within
    c.bytes_at-first.ensures c.bytes_at-bytes.ensures c.slots-slots.ensures.count).texts

pub returns-clause-items : goal.returns-clause-items
returns-clause-items c =
    let bytes = c.bytes_at-bytes.result.now in
    let has : HasTexts c.new.result bytes c.args.self.now =
    subst (λ o. HasTexts o c.bytes_at-bytes.result.now c.args.self.now) (sym c.new.ensures.offsets)
    (texts_of_view c.args.width c.self.inside c.args.self.now c.bytes_at-first.result.now c.bytes_at-bytes.result.now c.slots-slots.result c.self.view_is c.requires c.self.invariant.lawful c.self.invariant.within
    c.bytes_at-first.ensures c.bytes_at-bytes.ensures c.slots-slots.ensures.count).texts in
    items-seen (λ j. text (of_slot c.new.result bytes j)) c.validity-validity.result c.slots-slots.result c.args.self.now has.texts c.validity-validity.ensures c.slots-slots.ensures.count

pub returns-clause-few : goal.returns-clause-few
returns-clause-few c = λ j below. c.new.ensures.short j (subst (λ n. j ≤ n) (sym c.slots-slots.ensures.count) below)

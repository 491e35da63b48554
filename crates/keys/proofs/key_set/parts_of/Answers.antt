use Rattle.std.proofs.Common.{◌∙◌, arith, length, ap, length-append, ◌∷◌, []}
use Rattle.keys.proofs.PartLemmas.{key-push, prefix-trans, within-push}
use Rattle.arrays.specs.Batch.{row_of}
use Rattle.keys.specs.Texts.{named_texts}
use Rattle.keys.proofs.key_set.parts_of.Goals as goal

pub loop-place-preserved : goal.loop-place-preserved
loop-place-preserved c =
    let v = c.loop-place.invariant in
    let ts = named_texts c.loop-place.texts in
    let us = named_texts c.part_of.new.texts in
    let ps = c.loop-place.parts.items in
    let new = c.push.new.self.items in
    let p = c.in_ok-part_of.field-0 in
    let e = c.in_ok-part_of.ensures in (
      key-push ts us c.part_of.ensures.begins c.args.columns.now.by.now c.loop-place.place-index (row_of c.args.columns.now.batch.now.columns c.args.row) ps new p
          c.loop-place-test.true v.0 v.2 (e.item ∙ c.item_at-item.ensures) c.push.ensures.items,
      omega (arith, v.1, ap length c.push.ensures.items, length-append ps (p ∷ [])),
      within-push ts us c.part_of.ensures.begins ps new p v.2 e.within c.push.ensures.items,
      prefix-trans (named_texts c.args.texts.now) ts us v.3 c.part_of.ensures.begins,
    )

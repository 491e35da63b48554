use Rattle.std.proofs.Common.{arith, length, ap, length-append, ◌∷◌, []}
use Rattle.keys.proofs.PartLemmas.{prefix-trans, rename-push, within-push}
use Rattle.keys.specs.Texts.{named_texts}
use Rattle.keys.proofs.key_set.renamed_parts.Goals as goal

pub loop-part-preserved : goal.loop-part-preserved
loop-part-preserved c =
    let v = c.loop-part.invariant in
    let ts = named_texts c.loop-part.texts in
    let us = named_texts c.renamed_part.new.texts in
    let ps = c.loop-part.renamed.items in
    let new = c.push.new.self.items in
    let p = c.in_ok-renamed_part.field-0 in
    let e = c.in_ok-renamed_part.ensures in (
      rename-push ts us c.renamed_part.ensures.begins (named_texts c.args.others.now) c.args.parts.now c.loop-part.part-index ps new p _
          c.loop-part-test.true v.0 v.2 e.item c.push.ensures.items,
      omega (arith, v.1, ap length c.push.ensures.items, length-append ps (p ∷ [])),
      within-push ts us c.renamed_part.ensures.begins ps new p v.2 e.within c.push.ensures.items,
      prefix-trans (named_texts c.args.texts.now) ts us v.3 c.renamed_part.ensures.begins,
    )

use Rattle.std.proofs.Common.{◌∙◌, sym}
use Rattle.kernels.proofs.ComparisonLemmas.{items-compared, texts-compared}
use Rattle.kernels.proofs.comparison.compare_texts.Goals as goal

pub invariant_of-pairs : goal.invariant_of-pairs
invariant_of-pairs c = record { lengths = c.texts.ensures.slots ∙ c.requires.lengths ∙ sym c.texts-in-Text-Text.ensures.slots }

pub returns-in-Text-Text : goal.returns-in-Text-Text
returns-in-Text-Text c =
    let x = c.texts.result in
    let y = c.texts-in-Text-Text.result in
    let v = c.of-x in
    let u = c.of-y in
    let same = texts-compared c.args.op c.of-wanted.result c.of-wanted.ensures c.args.a.now c.args.b.now c.requires.lengths v.result.bits u.result.bits x.slots v.ensures.bits u.ensures.bits
    c.texts.ensures.slots x.offsets x.bytes.now y.offsets y.bytes.now c.texts.ensures.texts c.texts-in-Text-Text.ensures.texts in
    rw (← same) c.array_of.ensures

pub returns-in_default : goal.returns-in_default
returns-in_default c =
    let same = items-compared c.args.op c.of-wanted.result c.of-wanted.ensures c.args.a.now c.args.b.now c.requires.lengths c.slots.result c.slots.ensures.count in
    rw (← same) c.array_of-in_default.ensures

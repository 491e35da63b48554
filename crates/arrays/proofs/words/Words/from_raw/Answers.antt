use Rattle.std.proofs.Common.{◌∙◌, ap}
use Rattle.arrays.specs.declared.array.parts.Parts.{Parts}
use Rattle.arrays.specs.Words.{read_texts}
use Rattle.layout.proofs.LawfulLemmas.{AreTexts-raw}
use Rattle.arrays.proofs.words.Words.from_raw.Goals as goal

pub invariant_of-result : goal.invariant_of-result
invariant_of-result c = ap (λ (p : Parts). (read_texts p).fault) c.in_ok-new.ensures.ok ∙ (AreTexts-raw c.args.raw c.requires.lawful c.requires.texts).lawful

pub returns : goal.returns
returns c = ap (λ (p : Parts). (read_texts p).seen) c.in_ok-new.ensures.ok ∙ (AreTexts-raw c.args.raw c.requires.lawful c.requires.texts).shows

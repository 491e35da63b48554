use Rattle.std.proofs.Common.{[], None, ◌∙◌, ap, sym}
use Rattle.types.specs.Kind.{utf8}
use Rattle.layout.specs.Prelude.{Seen, read_parts}
use Rattle.arrays.specs.Dictionary.{entries_shown, texts_alone}
use Rattle.arrays.proofs.DictionaryViews.{texts_seen}
use Rattle.arrays.proofs.words.Words.view.Goals as goal

pub returns-clause-texts : goal.returns-clause-texts
returns-clause-texts c =
    let p = c.deref-parts.result.now in
    let is = c.whole.ensures ∙ ap (λ b. (read_parts utf8 p.length None b [] None).seen) c.deref.ensures.value in
    is ∙ texts_seen p.length p.buffers.items ∙ ap (λ (s : Seen). texts_alone (entries_shown s)) (sym is)

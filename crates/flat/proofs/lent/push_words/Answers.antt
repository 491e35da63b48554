use Rattle.flat.proofs.LentLemmas.{text_pushed}
use Rattle.flat.proofs.lent.push_words.Goals as goal

pub returns : goal.returns
returns c =
    let p = c.parts-parts.result in
    text_pushed c.words_over.result c.args.words.now p c.args.nodes.now.items c.push.new.self.items c.words_over.ensures c.parts-parts.ensures.lawful c.parts-parts.ensures.shows c.in_ok-push.ensures.items

use Rattle.std.proofs.Common.{[], true}
use Rattle.flat.proofs.LentLemmas.{dictionary_over}
use Rattle.flat.proofs.NamedLemmas.{without_slots}
use Rattle.arrays.specs.Kind as kind
use Rattle.flat.proofs.named.push_texts.Goals as goal

pub returns : goal.returns
returns c =
    let n = c.words_over.result in record {
      own = n;
      is = c.in_ok-push.ensures.items;
      dictionary = dictionary_over 0 0 [] n c.words_over.ensures;
      without = without_slots [] true kind.utf8 n c.words_over.ensures;
    }

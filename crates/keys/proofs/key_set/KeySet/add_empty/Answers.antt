use Rattle.std.proofs.Common.{◌∙◌, ap, length, subst, sym}
use Rattle.std.specs.Prelude.{All}
use Rattle.std.proofs.lemmas.List.Elements.{All-nil}
use Rattle.indexmap.specs.IndexSet.{insert_key}
use Rattle.keys.specs.Prelude.{IsWithin, key_of_parts, named_texts, same_key}
use Rattle.keys.proofs.key_set.KeySet.add_empty.Goals as goal

pub intern_parts-requires-clause-named : goal.intern_parts-requires-clause-named
intern_parts-requires-clause-named c =
    let W = IsWithin (length (named_texts c.self.inside.texts)) in
    subst (All W) (sym c.new.ensures) (All-nil W)

pub returns : goal.returns
returns c =
    let ts = named_texts c.self.inside.texts in
    c.in_ok-intern_parts.ensures.keys
    ∙ ap (λ l. insert_key same_key l (key_of_parts ts c.new.result.items)) c.self.view_is
    ∙ ap (λ l. insert_key same_key c.args.self.now (key_of_parts ts l)) c.new.ensures

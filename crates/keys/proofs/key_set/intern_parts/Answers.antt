use Rattle.std.proofs.Common.{length}
use Rattle.keys.specs.Prelude.{named_texts, parts_shown}
use Rattle.std.proofs.lemmas.Result.{on_ok_weaker}
use Rattle.keys.proofs.PartLemmas.{keys_inserted, numbered, within_placed}
use Rattle.keys.proofs.key_set.intern_parts.Goals as goal

pub returns-clause-keys : goal.returns-clause-keys
returns-clause-keys c =
    let ts = named_texts c.args.texts.now in
    let ks = parts_shown c.args.keys.now in
    on_ok_weaker c.place_of.result
    (keys_inserted ts c.args.texts.now.once ks (parts_shown c.place_of.new.self) c.args.parts.items c.requires.named c.requires.within)
    c.place_of.ensures.keys

pub returns-clause-id : goal.returns-clause-id
returns-clause-id c = numbered c.place_of.result (named_texts c.args.texts.now) (parts_shown c.place_of.new.self) c.args.parts.items c.place_of.ensures.place

pub returns-clause-within : goal.returns-clause-within
returns-clause-within c =
    within_placed c.place_of.result (length (named_texts c.args.texts.now)) (parts_shown c.args.keys.now) (parts_shown c.place_of.new.self) c.args.parts.items c.requires.named c.requires.within
    c.place_of.ensures.keys c.place_of.ensures.err

use Rattle.std.proofs.Common.{◌∷◌, [], length}
use Rattle.std.proofs.lemmas.List.Elements.{All-cons, All-nil}
use Rattle.keys.specs.Prelude.{IsWithin, named_texts, parts_shown}
use Rattle.std.proofs.lemmas.Result.{on_ok_weaker}
use Rattle.keys.proofs.PartLemmas.{keys_inserted, numbered, within_placed}
use Rattle.keys.proofs.key_set.intern_part.Goals as goal

pub returns-clause-keys : goal.returns-clause-keys
returns-clause-keys c =
    let ts = named_texts c.args.texts.now in
    let W = IsWithin (length ts) in
    let p = c.args.part in
    let all_within = All-cons W p [] c.requires.named (All-nil W) in
    on_ok_weaker c.place_of_part.result
    (keys_inserted ts c.args.texts.now.once (parts_shown c.args.keys.now) (parts_shown c.place_of_part.new.self) (p ∷ []) all_within c.requires.within)
    c.place_of_part.ensures.keys

pub returns-clause-id : goal.returns-clause-id
returns-clause-id c = numbered c.place_of_part.result (named_texts c.args.texts.now) (parts_shown c.place_of_part.new.self) (c.args.part ∷ []) c.place_of_part.ensures.place

pub returns-clause-within : goal.returns-clause-within
returns-clause-within c =
    let n = length (named_texts c.args.texts.now) in
    let W = IsWithin n in
    let p = c.args.part in
    within_placed c.place_of_part.result n (parts_shown c.args.keys.now) (parts_shown c.place_of_part.new.self) (p ∷ []) (All-cons W p [] c.requires.named (All-nil W)) c.requires.within
    c.place_of_part.ensures.keys c.place_of_part.ensures.err

use Rattle.std.proofs.Common.{◌≡◌, ◌∙◌, ◌∷◌, ◌≤◌, [], Some, ap, arith, length, subst}
use Rattle.std.proofs.lemmas.List.{length-map}
use Rattle.std.proofs.lemmas.List.Elements.{All-head}
use Rattle.std.specs.Prelude.{IfOk, OnOk, slice_get}
use Rattle.indexmap.specs.IndexSet.{insert_key}
use Rattle.keys.specs.Prelude.{IsWithin, item_of_part, key_of_parts, keys_shown, named_texts, parts_shown, parts_stored, same_key}
use Rattle.keys.proofs.PartLemmas.{keys-grown, stored_present, stored_key}
use Rattle.keys.proofs.key_set.KeySet.intern_key.Goals as goal

pub key_at-requires : goal.key_at-requires
key_at-requires c =
    let os = named_texts c.other.inside.texts in
    omega (arith, c.requires, ap length c.other.view_is, length-map (parts_shown c.other.inside.keys) (key_of_parts os))

pub renamed_parts-requires-clause-named : goal.renamed_parts-requires-clause-named
renamed_parts-requires-clause-named c =
    stored_present (named_texts c.other.inside.texts) (parts_shown c.other.inside.keys) c.args.place c.in-Parts.parts.now (c.key_at.ensures.there ∙ ap (λ s. Some (parts_stored s)) c.in-Parts.is)
    c.other.invariant

pub renamed_parts-requires-clause-few : goal.renamed_parts-requires-clause-few
renamed_parts-requires-clause-few c = subst (λ s. length (parts_stored s) ≤ 4) c.in-Parts.is c.key_at.ensures.few

pub renamed_part-requires : goal.renamed_part-requires
renamed_part-requires c =
    let os = named_texts c.other.inside.texts in
    let p = c.in-Alone.part in
    All-head (IsWithin (length os)) p []
    (stored_present os (parts_shown c.other.inside.keys) c.args.place (p ∷ []) (c.key_at.ensures.there ∙ ap (λ s. Some (parts_stored s)) c.in-Alone.is) c.other.invariant)

pub returns-in_ok-renamed-in-Alone-clause-keys : goal.returns-in_ok-renamed-in-Alone-clause-keys
returns-in_ok-renamed-in-Alone-clause-keys c =
    let r = c.intern_part.result in
    let us = named_texts c.renamed_part.new.texts in
    let p = c.in-Alone.part in
    let key = ap (λ x. x ∷ []) c.in_ok-renamed-in-Alone.ensures.item
    ∙ stored_key (named_texts c.other.inside.texts) (parts_shown c.other.inside.keys) c.args.place (p ∷ []) (c.key_at.ensures.there ∙ ap (λ s. Some (parts_stored s)) c.in-Alone.is)
    c.args.other.now c.other.view_is in
    let new = keys_shown us (parts_shown c.intern_part.new.keys) in
    let grown = keys-grown (named_texts c.self.inside.texts) us c.renamed_part.ensures.begins (parts_shown c.self.inside.keys) c.self.invariant ∙ c.self.view_is in
    subst (λ k. OnOk r (new ≡ insert_key same_key c.args.self.now k)) key
    (subst (λ l. OnOk r (new ≡ insert_key same_key l (item_of_part us c.in_ok-renamed-in-Alone.renamed ∷ []))) grown c.intern_part.ensures.keys)

pub returns-in_ok-renamed-in-Alone-clause-id : goal.returns-in_ok-renamed-in-Alone-clause-id
returns-in_ok-renamed-in-Alone-clause-id c =
    let p = c.in-Alone.part in
    let key = ap (λ x. x ∷ []) c.in_ok-renamed-in-Alone.ensures.item
    ∙ stored_key (named_texts c.other.inside.texts) (parts_shown c.other.inside.keys) c.args.place (p ∷ []) (c.key_at.ensures.there ∙ ap (λ s. Some (parts_stored s)) c.in-Alone.is)
    c.args.other.now c.other.view_is in
    subst (λ k. IfOk c.intern_part.result (λ n. slice_get (keys_shown (named_texts c.renamed_part.new.texts) (parts_shown c.intern_part.new.keys)) n ≡ Some k)) key
    c.intern_part.ensures.id

pub returns-in_ok-renamed-in-Parts-clause-keys : goal.returns-in_ok-renamed-in-Parts-clause-keys
returns-in_ok-renamed-in-Parts-clause-keys c =
    let r = c.intern_parts.result in
    let us = named_texts c.renamed_parts.new.texts in
    let key = c.in_ok-renamed-in-Parts.ensures.key
    ∙ stored_key (named_texts c.other.inside.texts) (parts_shown c.other.inside.keys) c.args.place c.in-Parts.parts.now (c.key_at.ensures.there ∙ ap (λ s. Some (parts_stored s)) c.in-Parts.is)
    c.args.other.now c.other.view_is in
    let new = keys_shown us (parts_shown c.intern_parts.new.keys) in
    let grown = keys-grown (named_texts c.self.inside.texts) us c.renamed_parts.ensures.begins (parts_shown c.self.inside.keys) c.self.invariant ∙ c.self.view_is in
    subst (λ k. OnOk r (new ≡ insert_key same_key c.args.self.now k)) key
    (subst (λ l. OnOk r (new ≡ insert_key same_key l (key_of_parts us c.in_ok-renamed-in-Parts.renamed.items))) grown c.intern_parts.ensures.keys)

pub returns-in_ok-renamed-in-Parts-clause-id : goal.returns-in_ok-renamed-in-Parts-clause-id
returns-in_ok-renamed-in-Parts-clause-id c =
    let key = c.in_ok-renamed-in-Parts.ensures.key
    ∙ stored_key (named_texts c.other.inside.texts) (parts_shown c.other.inside.keys) c.args.place c.in-Parts.parts.now (c.key_at.ensures.there ∙ ap (λ s. Some (parts_stored s)) c.in-Parts.is)
    c.args.other.now c.other.view_is in
    subst (λ k. IfOk c.intern_parts.result (λ n. slice_get (keys_shown (named_texts c.renamed_parts.new.texts) (parts_shown c.intern_parts.new.keys)) n ≡ Some k)) key
    c.intern_parts.ensures.id

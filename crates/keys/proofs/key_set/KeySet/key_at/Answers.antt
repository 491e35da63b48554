use Rattle.std.proofs.Common.{◌∙◌, ◌∷◌, [], Some, ap, arith, length, map}
use Rattle.std.proofs.lemmas.List.{length-map}
use Rattle.group.specs.Scalars.{item_of_scalar}
use Rattle.keys.specs.Prelude.{key_of_parts, named_texts, parts_shown, parts_stored}
use Rattle.keys.proofs.PartLemmas.{items_reported, stored_present, stored_there}
use Rattle.keys.proofs.key_set.KeySet.key_at.Goals as goal

pub key_at-requires : goal.key_at-requires
key_at-requires c =
    let ts = named_texts c.self.inside.texts in
    omega (arith, c.requires, ap length c.self.view_is, length-map (parts_shown c.self.inside.keys) (key_of_parts ts))

pub items_of-requires : goal.items_of-requires
items_of-requires c =
    stored_present (named_texts c.self.inside.texts) (parts_shown c.self.inside.keys) c.args.id (c.in-Alone.part ∷ []) (c.key_at.ensures.there ∙ ap (λ s. Some (parts_stored s)) c.in-Alone.is)
    c.self.invariant

pub items_of-requires-in-Parts : goal.items_of-requires-in-Parts
items_of-requires-in-Parts c =
    stored_present (named_texts c.self.inside.texts) (parts_shown c.self.inside.keys) c.args.id c.in-Parts.parts.now (c.key_at.ensures.there ∙ ap (λ s. Some (parts_stored s)) c.in-Parts.is)
    c.self.invariant

pub returns-in-Alone : goal.returns-in-Alone
returns-in-Alone c =
    let ts = named_texts c.self.inside.texts in
    let n = c.args.id in
    items_reported c.items_of.result (λ v. map item_of_scalar v.items) c.args.self.now n (key_of_parts ts (c.in-Alone.part ∷ []))
    (stored_there ts (parts_shown c.self.inside.keys) n (c.in-Alone.part ∷ []) (c.key_at.ensures.there ∙ ap (λ s. Some (parts_stored s)) c.in-Alone.is) c.args.self.now c.self.view_is)
    c.items_of.ensures

pub returns-in-Parts : goal.returns-in-Parts
returns-in-Parts c =
    let ts = named_texts c.self.inside.texts in
    let n = c.args.id in
    items_reported c.items_of-in-Parts.result (λ v. map item_of_scalar v.items) c.args.self.now n (key_of_parts ts c.in-Parts.parts.now)
    (stored_there ts (parts_shown c.self.inside.keys) n c.in-Parts.parts.now (c.key_at.ensures.there ∙ ap (λ s. Some (parts_stored s)) c.in-Parts.is) c.args.self.now c.self.view_is)
    c.items_of-in-Parts.ensures

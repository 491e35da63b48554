use Rattle.std.proofs.Common.{◌≡◌, ◌∙◌, ◌∷◌, [], Some, ap, subst, sym}
use Rattle.std.proofs.lemmas.Option.{get_or_from_slice_get}
use Rattle.std.specs.Prelude.{IfOk, OnOk, slice_get}
use Rattle.indexmap.specs.IndexSet.{insert_key}
use Rattle.arrays.specs.Prelude.{null}
use Rattle.keys.specs.Prelude.{item_of_part, keys_shown, named_texts, parts_shown, same_key}
use Rattle.keys.proofs.PartLemmas.{keys-grown}
use Rattle.keys.proofs.key_set.KeySet.intern_entry.Goals as goal

pub returns-clause-keys : goal.returns-clause-keys
returns-clause-keys c =
    let r = c.intern_part.result in
    let us = named_texts c.likely_part.new.texts in
    let new = keys_shown us (parts_shown c.intern_part.new.keys) in
    let p = c.in_ok-part.part in
    let key = ap (λ x. x ∷ []) (c.in_ok-part.ensures.item ∙ sym (get_or_from_slice_get c.args.entries.now.items c.args.place _ null c.text_as.ensures)) in
    let grown = keys-grown (named_texts c.self.inside.texts) us c.likely_part.ensures.begins (parts_shown c.self.inside.keys) c.self.invariant ∙ c.self.view_is in
    subst (λ k. OnOk r (new ≡ insert_key same_key c.args.self.now k)) key
    (subst (λ l. OnOk r (new ≡ insert_key same_key l (item_of_part us p ∷ []))) grown c.intern_part.ensures.keys)

pub returns-clause-id : goal.returns-clause-id
returns-clause-id c =
    let us = named_texts c.likely_part.new.texts in
    let key = ap (λ x. x ∷ []) (c.in_ok-part.ensures.item ∙ sym (get_or_from_slice_get c.args.entries.now.items c.args.place _ null c.text_as.ensures)) in
    subst (λ k. IfOk c.intern_part.result (λ n. slice_get (keys_shown us (parts_shown c.intern_part.new.keys)) n ≡ Some k)) key c.intern_part.ensures.id

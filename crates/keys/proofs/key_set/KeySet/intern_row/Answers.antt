use Rattle.std.proofs.Common.{◌≡◌, ◌∙◌, ◌∷◌, [], Some, subst}
use Rattle.std.specs.Prelude.{IfOk, OnOk, slice_get}
use Rattle.indexmap.specs.IndexSet.{insert_key}
use Rattle.arrays.specs.Batch.{row_of}
use Rattle.keys.specs.Prelude.{item_of_part, key_of_parts, keys_shown, named_texts, parts_shown, same_key}
use Rattle.keys.proofs.PartLemmas.{are-grown, key_alone, keys-grown}
use Rattle.keys.proofs.key_set.KeySet.intern_row.Goals as goal

pub intern_parts-requires-clause-within : goal.intern_parts-requires-clause-within
intern_parts-requires-clause-within c = are-grown (named_texts c.self.inside.texts) (named_texts c.parts_of.new.texts) c.parts_of.ensures.begins (parts_shown c.self.inside.keys) c.self.invariant

pub returns-clause-keys : goal.returns-clause-keys
returns-clause-keys c =
    let r = c.intern_parts.result in
    let us = named_texts c.parts_of.new.texts in
    let new = keys_shown us (parts_shown c.intern_parts.new.keys) in
    let grown = keys-grown (named_texts c.self.inside.texts) us c.parts_of.ensures.begins (parts_shown c.self.inside.keys) c.self.invariant ∙ c.self.view_is in
    subst (λ k. OnOk r (new ≡ insert_key same_key c.args.self.now k)) c.in_ok-parts.ensures.key
    (subst (λ l. OnOk r (new ≡ insert_key same_key l (key_of_parts us c.in_ok-parts.parts.items))) grown c.intern_parts.ensures.keys)

pub returns-clause-id : goal.returns-clause-id
returns-clause-id c =
    subst (λ k. IfOk c.intern_parts.result (λ n. slice_get (keys_shown (named_texts c.parts_of.new.texts) (parts_shown c.intern_parts.new.keys)) n ≡ Some k))
    c.in_ok-parts.ensures.key c.intern_parts.ensures.id

pub returns-then-columns-eq1-clause-keys : goal.returns-then-columns-eq1-clause-keys
returns-then-columns-eq1-clause-keys c =
    let r = c.intern_part.result in
    let us = named_texts c.part_of.new.texts in
    let new = keys_shown us (parts_shown c.intern_part.new.keys) in
    let p = c.in_ok-part.part in
    let key = key_alone c.args.columns.now.by.now (row_of c.args.columns.now.batch.now.columns c.args.row) (item_of_part us p) c.if-columns-eq1.true (c.in_ok-part.ensures.item ∙ c.item_at-item.ensures) in
    let grown = keys-grown (named_texts c.self.inside.texts) us c.part_of.ensures.begins (parts_shown c.self.inside.keys) c.self.invariant ∙ c.self.view_is in
    subst (λ k. OnOk r (new ≡ insert_key same_key c.args.self.now k)) key
    (subst (λ l. OnOk r (new ≡ insert_key same_key l (item_of_part us p ∷ []))) grown c.intern_part.ensures.keys)

pub returns-then-columns-eq1-clause-id : goal.returns-then-columns-eq1-clause-id
returns-then-columns-eq1-clause-id c =
    let us = named_texts c.part_of.new.texts in
    let p = c.in_ok-part.part in
    let key = key_alone c.args.columns.now.by.now (row_of c.args.columns.now.batch.now.columns c.args.row) (item_of_part us p) c.if-columns-eq1.true (c.in_ok-part.ensures.item ∙ c.item_at-item.ensures) in
    subst (λ k. IfOk c.intern_part.result (λ n. slice_get (keys_shown us (parts_shown c.intern_part.new.keys)) n ≡ Some k)) key c.intern_part.ensures.id

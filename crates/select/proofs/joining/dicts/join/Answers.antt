use Rattle.std.proofs.Common.{◌≡◌, ◌∙◌, ◌+◌, ◌≤◌, ap, arith, length, subst, sym, true}
use Rattle.std.specs.Prelude.{All}
use Rattle.std.specs.Arc.{arc_value}
use Rattle.arrays.specs.Prelude.{Seen, is_code, joined_items, shown}
use Rattle.arrays.specs.Kind as kind
use Rattle.select.specs.Joined.{joined_entries}
use Rattle.select.proofs.JoinedCodes.{codes-within, joined-encoded}
use Rattle.select.proofs.joining.dicts.join.Goals as goal

pub dict-requires-clause-codes : goal.dict-requires-clause-codes
dict-requires-clause-codes c =
    let views = c.args.views.now in
    let shared = arc_value c.in_ok-new.field-0 in
    let words : shared ≡ shown kind.utf8 (joined_entries views) =
    c.in_ok-new.ensures.ok ∙ c.of.ensures ∙ c.in_ok-dictionary.ensures.ok ∙ ap (λ l. shown kind.utf8 (joined_items l)) c.deref-2.ensures.value ∙ ap (shown kind.utf8) c.in_ok-entries.ensures.items in
    let few : 0 + length (joined_entries views) ≤ length shared.items = omega (arith, ap (λ (q : Seen). length q.items) words) in
    subst (All (λ x. is_code (length shared.items) x ≡ true)) (sym (ap (λ (q : Seen). q.items) c.in_ok-codes.ensures.codes))
    (codes-within (length shared.items) 0 views c.in_ok-codes.ensures.encoded few)

pub returns-clause-ok : goal.returns-clause-ok
returns-clause-ok c =
    let views = c.args.views.now in
    let shared = arc_value c.in_ok-new.field-0 in
    let words : shared ≡ shown kind.utf8 (joined_entries views) =
    c.in_ok-new.ensures.ok ∙ c.of.ensures ∙ c.in_ok-dictionary.ensures.ok ∙ ap (λ l. shown kind.utf8 (joined_items l)) c.deref-2.ensures.value ∙ ap (shown kind.utf8) c.in_ok-entries.ensures.items in
    c.dict.ensures ∙ joined-encoded views c.in_ok-codes.codes shared c.in_ok-codes.ensures.encoded c.in_ok-codes.ensures.codes words

use Rattle.std.proofs.Common.{◌≡◌, ◌∙◌, ◌<◌, Some, true, false, rules, ap, sym, subst, length, pos}
use Rattle.layout.specs.Prelude.{int, valid_at}
use Rattle.arrays.proofs.DictionaryViews.{codes_slots, named_item, valid_code, null_code}
use Rattle.arrays.proofs.view.View.code_at.Goals as goal

pub returns-then-not-is_valid-clause-item : goal.returns-then-not-is_valid-clause-item
returns-then-not-is_valid-clause-item c =
    let s = c.args.self.now in
    let codes = c.codes-codes.result in
    let none : valid_at codes c.args.i ≡ false = search rules in
    named_item s c.args.i _ c.codes-codes.ensures.items (null_code s codes c.numbers-numbers.result.now c.args.i c.codes-codes.ensures.value c.numbers-numbers.ensures (codes_slots s codes c.args.i c.codes-codes.ensures.value c.codes-codes.ensures.items c.requires.within) none)

pub natural_at-requires-clause-counted : goal.natural_at-requires-clause-counted
natural_at-requires-clause-counted c =
    let s = c.args.self.now in
    let codes = c.codes-codes.result in
    let valid : valid_at codes c.args.i ≡ true = search rules in
    (valid_code s codes c.numbers-numbers.result.now c.args.i c.codes-codes.ensures.value c.numbers-numbers.ensures c.codes-codes.ensures.within (codes_slots s codes c.args.i c.codes-codes.ensures.value c.codes-codes.ensures.items c.requires.within) valid).counted

pub returns-clause-item : goal.returns-clause-item
returns-clause-item c =
    let s = c.args.self.now in
    let codes = c.codes-codes.result in
    let valid : valid_at codes c.args.i ≡ true = search rules in
    let code =
    (valid_code s codes c.numbers-numbers.result.now c.args.i c.codes-codes.ensures.value c.numbers-numbers.ensures c.codes-codes.ensures.within (codes_slots s codes c.args.i c.codes-codes.ensures.value c.codes-codes.ensures.items c.requires.within) valid).code
    ∙ ap (λ n. Some (int (pos n))) (sym c.natural_at.ensures.number) in
    named_item s c.args.i _ c.codes-codes.ensures.items code

pub returns-clause-entry : goal.returns-clause-entry
returns-clause-entry c =
    let s = c.args.self.now in
    let codes = c.codes-codes.result in
    let valid : valid_at codes c.args.i ≡ true = search rules in
    subst (λ n. n < length s.entries.items) (sym c.natural_at.ensures.number)
    (valid_code s codes c.numbers-numbers.result.now c.args.i c.codes-codes.ensures.value c.numbers-numbers.ensures c.codes-codes.ensures.within (codes_slots s codes c.args.i c.codes-codes.ensures.value c.codes-codes.ensures.items c.requires.within) valid).below

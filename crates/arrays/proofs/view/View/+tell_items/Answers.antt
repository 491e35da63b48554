use Rattle.std.proofs.Common.{◌∙◌, All, ap, arith, false, length, subst, sym}
use Rattle.std.specs.Prelude.{slice_index_or}
use Rattle.types.specs.Kind as kind
use Rattle.types.specs.Prelude.{Kind, number_at}
use Rattle.layout.specs.Prelude.{Seen, boolean, int, of_slot, text}
use Rattle.arrays.specs.Prelude.{IsItemOf, is_too_big}
use Rattle.arrays.proofs.SizeLemmas.{lists-fit, texts-fit}
use Rattle.arrays.proofs.TypedLemmas.{codes-typed, lists-typed, values-typed}
use Rattle.arrays.proofs.view.View.+tell_items.Goals as goal

pub returns-in-Int-clause-typed : goal.returns-in-Int-clause-typed
returns-in-Int-clause-typed t c =
    let s = c.args.self.now in
    subst (λ (k : Kind). All (IsItemOf k) s.items) c.in-Int.ensures
    (values-typed (kind.int c.in-Int.ty) (λ j. int (number_at c.in-Int.ty c.numbers.result.now j)) s c.numbers.ensures.numbers (λ j below valid. c.tell_range.ensures j))

pub returns-in-Int-clause-few : goal.returns-in-Int-clause-few
returns-in-Int-clause-few t c = ap (λ k. is_too_big k c.args.self.now.items) (sym c.in-Int.ensures)

pub returns-in-Bool-clause-typed : goal.returns-in-Bool-clause-typed
returns-in-Bool-clause-typed t c =
    let s = c.args.self.now in
    subst (λ (k : Kind). All (IsItemOf k) s.items) c.in-Bool.ensures
    (values-typed kind.boolean (λ j. boolean (slice_index_or c.bool_bits.result j false)) s c.bool_bits.ensures.values (λ j below valid. tt))

pub returns-in-Bool-clause-few : goal.returns-in-Bool-clause-few
returns-in-Bool-clause-few t c = ap (λ k. is_too_big k c.args.self.now.items) (sym c.in-Bool.ensures)

pub returns-in-Text-clause-typed : goal.returns-in-Text-clause-typed
returns-in-Text-clause-typed t c =
    let s = c.args.self.now in
    let texts = c.texts.result in
    subst (λ (k : Kind). All (IsItemOf k) s.items) c.in-Text.ensures
    (values-typed (kind.texts c.in-Text.width) (λ j. text (of_slot texts.offsets texts.bytes.now j)) s c.texts.ensures.texts.texts c.texts.ensures.texts.utf8)

pub returns-in-Text-clause-few : goal.returns-in-Text-clause-few
returns-in-Text-clause-few t c =
    let s = c.args.self.now in
    let texts = c.texts.result in
    ap (λ k. is_too_big k s.items) (sym c.in-Text.ensures)
    ∙ texts-fit c.in-Text.width texts.offsets texts.bytes.now s c.texts.ensures.texts (c.texts.ensures.few (length s.items) (omega arith))

pub returns-in-List-clause-typed : goal.returns-in-List-clause-typed
returns-in-List-clause-typed t c =
    let lists = c.lists.result in
    lists-typed lists.offsets lists.child c.args.self.now c.lists.ensures.value c.tell_items.ensures.typed

pub returns-in-List-clause-few : goal.returns-in-List-clause-few
returns-in-List-clause-few t c =
    let lists = c.lists.result in
    lists-fit lists.offsets lists.child c.args.self.now c.lists.ensures.value lists.child_short c.tell_items.ensures.few

pub returns-in-Dict-clause-typed : goal.returns-in-Dict-clause-typed
returns-in-Dict-clause-typed t c =
    let s = c.args.self.now in
    let same = ap (λ (q : Seen). q.items) c.codes.ensures.items in
    let texts = c.texts-in-Dict.result in
    let entries : All (IsItemOf kind.utf8) c.entries.result.items =
    values-typed kind.utf8 (λ j. text (of_slot texts.offsets texts.bytes.now j)) c.entries.result c.texts-in-Dict.ensures.texts.texts c.texts-in-Dict.ensures.texts.utf8 in
    subst (λ (k : Kind). All (IsItemOf k) s.items) c.in-Dict.ensures
    (codes-typed s.entries.items s.codes s.items same (subst (λ (q : Seen). All (IsItemOf kind.utf8) q.items) c.entries.ensures entries))

pub returns-in-Dict-clause-few : goal.returns-in-Dict-clause-few
returns-in-Dict-clause-few t c = ap (λ k. is_too_big k c.args.self.now.items) (sym c.in-Dict.ensures)

use Rattle.std.proofs.Common.{◌∙◌, ℕ, None, ap, get_or, length, map, refl, subst, sym}
use Rattle.std.specs.List.{range_with_len}
use Rattle.std.proofs.lemmas.Result.{IfOk-weaker}
use Rattle.arrays.specs.Prelude.{IsBufferOf, kept, show_numbers}
use Rattle.arrays.proofs.ValidityLemmas.{kept_buffer}
use Rattle.select.specs.Stored.{is_stored}
use Rattle.select.proofs.StoredLemmas.{numbers-picked}
use Rattle.select.proofs.gather.numbers.gather.Goals as goal

pub from_numbers-requires-clause-bits : goal.from_numbers-requires-clause-bits
from_numbers-requires-clause-bits g c =
    let picks = g.R.Rows.picks c.args.rows.now in
    let f = λ (j : ℕ). is_stored c.ints-numbers.result.validity (get_or picks j None) in
    (kept_buffer c.slots.result f c.in_ok-validity.validity (kept (map f (range_with_len 0 (length picks)))) (ap (λ n. kept (map f (range_with_len 0 n))) (sym c.slots.ensures.count)) c.in_ok-validity.ensures).long

pub returns : goal.returns
returns g c =
    let t = g.T.Integer.ty in
    let s = c.args.view.now in
    let picks = g.R.Rows.picks c.args.rows.now in
    let numbers = c.ints-numbers.result in
    let holds = subst (λ v. IsBufferOf c.in_ok-validity.validity (kept (map (λ j. is_stored v (get_or picks j None)) (range_with_len 0 (length picks))))) c.ints-numbers.ensures.validity c.in_ok-validity.ensures in
    IfOk-weaker c.from_numbers.result _ _
    (λ a is. is
    ∙ ap (λ t. show_numbers t c.slots.result c.in_ok-validity.validity c.in_ok-values.values) c.ty.ensures
    ∙ numbers-picked t numbers.values.now s picks c.slots.result c.in_ok-picked_numbers.field-0.items c.in_ok-values.values _ c.in_ok-validity.validity
    c.ints-numbers.ensures.values c.requires.within c.slots.ensures.count refl holds c.in_ok-picked_numbers.ensures c.in_ok-values.ensures)
    c.from_numbers.ensures

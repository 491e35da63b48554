use Rattle.std.proofs.Common.{◌∙◌, ℕ, None, Some, ap, get_or, length, map, sym, subst}
use Rattle.std.specs.List.{range_with_len}
use Rattle.std.proofs.lemmas.Result.{IfOk-weaker}
use Rattle.arrays.specs.Prelude.{IsBufferOf, kept}
use Rattle.arrays.proofs.ValidityLemmas.{kept_buffer}
use Rattle.select.specs.Stored.{is_stored}
use Rattle.select.proofs.BitsLemmas.{bools-picked, long-bitmap}
use Rattle.select.proofs.gather.bools.gather.Goals as goal

pub from_bits-requires-clause-bits : goal.from_bits-requires-clause-bits
from_bits-requires-clause-bits g c =
    let picks = g.R.Rows.picks c.args.rows.now in
    long-bitmap (λ j. is_stored (Some c.bools-bools.result.values) (get_or picks j None)) c.slots.result (length picks) c.in_ok-values.values c.slots.ensures.count c.in_ok-values.ensures

pub from_bits-requires-clause-validity : goal.from_bits-requires-clause-validity
from_bits-requires-clause-validity g c =
    let picks = g.R.Rows.picks c.args.rows.now in
    let f = λ (j : ℕ). is_stored c.bools-bools.result.validity (get_or picks j None) in
    (kept_buffer c.slots.result f c.in_ok-validity.validity (kept (map f (range_with_len 0 (length picks)))) (ap (λ n. kept (map f (range_with_len 0 n))) (sym c.slots.ensures.count)) c.in_ok-validity.ensures).long

pub returns : goal.returns
returns g c =
    let s = c.args.view.now in
    let picks = g.R.Rows.picks c.args.rows.now in
    let holds = subst (λ v. IsBufferOf c.in_ok-validity.validity (kept (map (λ j. is_stored v (get_or picks j None)) (range_with_len 0 (length picks))))) c.bools-bools.ensures.validity c.in_ok-validity.ensures in
    IfOk-weaker c.from_bits.result _ _
    (λ a is. is ∙ bools-picked c.bools-bools.result.values s picks c.slots.result c.in_ok-values.values c.in_ok-validity.validity c.bools-bools.ensures.values c.requires.within c.slots.ensures.count holds c.in_ok-values.ensures)
    c.from_bits.ensures

use Rattle.std.proofs.Common.{◌∙◌, ap, map, sym}
use Rattle.std.specs.List.{range_with_len}
use Rattle.std.proofs.lemmas.Result.{IfOk-weaker}
use Rattle.arrays.specs.Prelude.{is_validity_short, kept}
use Rattle.arrays.proofs.ValidityLemmas.{kept_buffer}
use Rattle.truths.proofs.TruthLemmas.{packed_enough, shown-truths}
use Rattle.truths.proofs.array.array_of.Goals as goal

pub from_bits-requires-clause-bits : goal.from_bits-requires-clause-bits
from_bits-requires-clause-bits g c =
    packed_enough (g.V.Places.at c.args.values.now) (g.V.Places.count c.args.values.now) c.len.result c.into_buffer.result c.in_ok-bits.bits
    c.len.ensures c.in_ok-bits.ensures c.into_buffer.ensures

pub from_bits-requires-clause-validity : goal.from_bits-requires-clause-validity
from_bits-requires-clause-validity g c =
    let kept = kept_buffer (g.K.Places.count c.args.known.now) (g.K.Places.at c.args.known.now) c.buffer_of.result c.in_ok-validity.validity c.in_ok-validity.ensures c.buffer_of.ensures in
    ap (λ n. is_validity_short n c.buffer_of.result) (c.len.ensures ∙ sym c.requires.one_length) ∙ kept.long

pub returns : goal.returns
returns g c =
    let known = g.K.Places.at c.args.known.now in
    let value = g.V.Places.at c.args.values.now in
    let n = g.V.Places.count c.args.values.now in
    let is_kept = kept_buffer n known c.buffer_of.result c.in_ok-validity.validity (c.in_ok-validity.ensures ∙ ap (λ m. kept (map known (range_with_len 0 m))) c.requires.one_length) c.buffer_of.ensures in
    IfOk-weaker c.from_bits.result _ _
    (λ x h. h ∙ shown-truths known value n c.len.result c.buffer_of.result c.into_buffer.result c.in_ok-bits.bits c.len.ensures is_kept c.in_ok-bits.ensures c.into_buffer.ensures)
    c.from_bits.ensures

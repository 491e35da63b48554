use Rattle.std.proofs.Common.{◌∙◌, ℕ, None, ap, arith, get_or, sym, w64}
use Rattle.std.proofs.lemmas.Option.{get_or_from_slice_get}
use Rattle.select.specs.Stored.{is_stored}
use Rattle.select.proofs.RestLemmas.{is_next, some_left}
use Rattle.select.proofs.WordLemmas.{bits-reported}
use Rattle.select.proofs.gather.bits.next_bits.Goals as goal

pub next-row-requires : goal.next-row-requires
next-row-requires g c =
    some_left _ (g.R.Rows.rest c.args.rows.now c.args.place.now) c.loop-j.j c.loop-j.invariant.reported (omega (arith, c.requires.within, c.loop-j-test.true))

pub loop-j-preserved : goal.loop-j-preserved
loop-j-preserved g c =
    let all = g.R.Rows.rest c.args.rows.now c.args.place.now in
    let bits = c.args.bits.now in
    let j = c.loop-j.j in
    let row = c.next-row.result in
    let f = λ (k : ℕ). is_stored bits (get_or all k None) in
    let next = is_next all j row _ _ c.loop-j.invariant.reported c.next-row.ensures in
    record {
      reported = next.rest;
      set =
          bits-reported w64 f c.loop-j.word j c.from.result c.bit_of_row.result (omega (arith, c.requires.small, c.loop-j-test.true)) c.from.ensures
          (c.bit_of_row.ensures ∙ ap (is_stored bits) (sym (get_or_from_slice_get all j row None next.here))) c.loop-j.invariant.set;
    }

use Rattle.std.proofs.Common.{ℕ, ◌*◌, ◌+◌, ◌-◌, ◌/◌, ◌%◌, ◌<◌, ◌≡◌, ◌∙◌, ap, arith, inl, inr, slice_index, sym}
use Rattle.std.proofs.lemmas.Bool.{cases_lt}
use Rattle.colbits.specs.Bit.{bit, bit_in}
use Rattle.colbits.proofs.LaneLemmas.{bit-lane, bit-load}
use Rattle.colbits.proofs.lanes.lanes_from.Goals as goal
use Rattle.colbits.proofs.lanes.lanes_from.Goals.{then-shift-eq0, else-shift-eq0}

pub returns : goal.returns
returns c = λ j h.
    let bytes = c.args.bytes.now in
    let at = c.args.at in
    let s = c.args.shift in
    let k = j / 8 in
    let i = j % 8 in
    let low = λ (n : ℕ) (within : n < 256). ap (λ l. bit l n) c.load-low.ensures ∙ bit-load bytes at n within in
    elim c.if-shift-eq0.branch [
      | then-shift-eq0 w ↦ ap (λ l. bit l j) w.result-is ∙ low j h ∙ ap (bit bytes) (omega arith)
      | else-shift-eq0 w ↦ (
          let apart : bit w.moved.result j ≡ bit_in (slice_index w.moved.result k) i = ap (bit w.moved.result) (omega arith) ∙ bit-lane w.moved.result k i (omega arith) in
          ap (λ l. bit l j) w.result-is ∙ apart ∙ elim (cases_lt (s + i) 8) [
            | inl here ↦ (
                w.moved.ensures.low k i (omega arith) here ∙ sym (bit-lane c.load-low.result k (s + i) here) ∙ low (8 * k + (s + i)) (omega arith) ∙ ap (bit bytes) (omega arith))
            | inr next ↦ (
                let n = s + i - 8 in
                let place : i ≡ 8 - s + n = omega arith in
                ap (bit_in (slice_index w.moved.result k)) place ∙ w.moved.ensures.high k n (omega arith) (omega arith) ∙ sym (bit-lane w.load.result k n (omega arith))
                ∙ ap (λ l. bit l (8 * k + n)) w.load.ensures ∙ bit-load bytes (at + 1) (8 * k + n) (omega arith) ∙ ap (bit bytes) (omega arith))
          ])
    ]

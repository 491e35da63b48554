use Rattle.std.proofs.Common.{◌≡◌, ◌∙◌, ◌*◌, ◌+◌, ◌-◌, ◌/◌, ◌<◌, ℕ, List, ap, arith, inl, inr, slice_index, nat_eq}
use Rattle.std.proofs.lemmas.Bool.{cases_lt}
use Rattle.std.specs.Int.{bit_at}
use Rattle.colbits.specs.Bit.{bit, bit_in}
use Rattle.colbits.proofs.word.word_from.Goals as goal

-- a bit of the ninth byte
ninth : (bytes : List ℕ) (at i : ℕ) → i < 8 → bit_in (slice_index bytes (at + 8)) i ≡ bit bytes (8 * at + 64 + i)
unfolding bit
ninth bytes at i h =
    ap (λ k. nat_eq (bit_at (slice_index bytes k) i) 1) (omega arith)
    ∙ ap (λ k. nat_eq (bit_at (slice_index bytes ((8 * at + 64 + i) / 8)) k) 1) (omega arith)

pub returns-else-shift-eq0 : goal.returns-else-shift-eq0
returns-else-shift-eq0 c = λ j h.
    let bytes = c.args.bytes.now in
    let at = c.args.at in
    let s = c.args.shift in
    elim (cases_lt (s + j) 64) [
      | inl low ↦ c.joined.ensures.low j low ∙ c.eight_bytes-low.ensures (s + j) low ∙ ap (bit bytes) (omega arith)
      | inr high ↦ (
          let k = s + j - 64 in
          let small : k < s = omega arith in
          ap (bit_in c.joined.result) (omega arith) ∙ c.joined.ensures.high k small ∙ ninth bytes at k (omega arith) ∙ ap (bit bytes) (omega arith))
    ]

use Rattle.std.proofs.Common.{◌≡◌, ◌∙◌, ◌+◌, ◌-◌, ◌*◌, ◌/◌, ◌<◌, ◌++◌, ◌&&◌, nat_lt, ℕ, List, map, length, take, ap, sym, subst, arith, length-append, w64}
use Rattle.std.specs.Int.{to_le_bytes}
use Rattle.std.specs.List.{range_with_len}
use Rattle.colbits.specs.Bit.{bit, bit_in}
use Rattle.colbits.proofs.BitLemmas.{bits-filled, past-filled}
use Rattle.colbits.proofs.WordLemmas.{ArePlaces, word-last, word-more}
use Rattle.colbits.proofs.bitmap.completed.Goals as goal
use Rattle.colbits.proofs.bitmap.completed.Given as given

pub loop-w-preserved : goal.loop-w-preserved
loop-w-preserved g c =
    let f = g.P.Places.at c.args.places.now in
    let w = c.loop-w.w in
    let bytes = c.loop-w.bytes.items in
    let word = c.word-word.result in
    let is : c.extend_from_slice.new.self.items ≡ bytes ++ to_le_bytes w64 word = c.in_ok-extend_from_slice.ensures.items ∙ ap (λ b. bytes ++ b) c.to_le_bytes.ensures in (
      omega (arith, ap length is, length-append bytes (to_le_bytes w64 word)),
      subst (λ (bs : List ℕ). (i : ℕ) → i < 64 * (w + 1) → bit bs i ≡ f i) (sym is) (word-more f bytes w word c.loop-w.invariant.0 c.loop-w.invariant.1 c.word-word.ensures),
    )

-- what the buffer holds in the end
present : (g : given.Over) (c : goal.In_ok-buffer g) → ArePlaces (g.P.Places.at c.args.places.now) c.len-len.result c.in_ok-buffer.buffer
present g c =
    let f = g.P.Places.at c.args.places.now in
    let n = c.len-len.result in
    let w = c.loop-w.w in
    let bytes = c.loop-w.bytes.items in
    let last = c.last_word-last.result in
    let end : 64 * w ≡ 64 * (n / 64) = omega arith in
    let rest : c.bytes_for.result ≡ (n - 64 * w + 7) / 8 = omega (arith, c.bytes_for.ensures) in
    let is : c.in_ok-buffer.buffer ≡ bytes ++ take ((n - 64 * w + 7) / 8) (to_le_bytes w64 last) =
    c.in_ok-buffer.ensures ∙ c.in_ok-extend_from_slice-2.ensures.items ∙ (λ i. bytes ++ take (rest i) (c.to_le_bytes-2.ensures i)) in
    let here : (k : ℕ) → k < 64 → bit_in last k ≡ (nat_lt k (n - 64 * w) && f (64 * w + k)) =
    λ k small. subst (λ m. bit_in last k ≡ (nat_lt k (n - m) && f (m + k))) (sym end) (c.last_word-last.ensures k) in
    subst (ArePlaces f n) (sym is) (word-last f bytes n w last c.loop-w.invariant.0 (omega arith) (omega arith) c.loop-w.invariant.1 here)

pub returns : goal.returns
returns g c =
    let f = g.P.Places.at c.args.places.now in
    let n = c.len-len.result in
    let buffer = c.in_ok-buffer.buffer in
    bits-filled f buffer n (present g c).bits_are ∙ ap (λ m. map f (range_with_len 0 m)) c.len-len.ensures

pub invariant_of-result : goal.invariant_of-result
invariant_of-result g c =
    let f = g.P.Places.at c.args.places.now in
    let all = present g c in
    record { length_is = all.long; past = past-filled f c.in_ok-buffer.buffer c.len-len.result all.bits_are }

use Rattle.std.proofs.Common.{◌≡◌, ◌∙◌, ◌+◌, ◌-◌, ◌*◌, ◌/◌, ◌<◌, ◌++◌, ◌&&◌, nat_lt, ℕ, List, None, drop, length, take, get_or, ap, sym, subst, arith, length-append, w64}
use Rattle.std.specs.Int.{to_le_bytes}
use Rattle.std.proofs.lemmas.List.{drop-drop}
use Rattle.std.proofs.lemmas.Result.{IfOk-weaker}
use Rattle.arrays.specs.Prelude.{bit, bit_in}
use Rattle.arrays.proofs.WordLemmas.{ArePlaces, word-last, word-more}
use Rattle.select.specs.Stored.{is_stored}
use Rattle.select.proofs.BitsLemmas.{bits-here, bits-word, packed-bitmap}
use Rattle.select.proofs.RestLemmas.{many_left}
use Rattle.select.proofs.gather.bits.picked_bits.Goals as goal

pub next_bits-word-requires-clause-within : goal.next_bits-word-requires-clause-within
next_bits-word-requires-clause-within g c =
    many_left _ (g.R.Rows.picks c.args.rows.now) (64 * c.loop-word._word) 64 c.loop-word.invariant.reported (omega (arith, c.slots-count.ensures.count, c.loop-word-test.true))

pub next_bits-last-requires-clause-within : goal.next_bits-last-requires-clause-within
next_bits-last-requires-clause-within g c =
    many_left _ (g.R.Rows.picks c.args.rows.now) (64 * c.loop-word._word) _ c.loop-word.invariant.reported (omega (arith, c.slots-count.ensures.count, c.loop-word-test.false))

pub loop-word-preserved : goal.loop-word-preserved
loop-word-preserved g c =
    let picks = g.R.Rows.picks c.args.rows.now in
    let w = c.loop-word._word in
    let bytes = c.loop-word.bytes.items in
    let word = c.next_bits-word.result in
    let f = λ (i : ℕ). is_stored c.args.bits.now (get_or picks i None) in
    let next : 64 * w + 64 ≡ 64 * (w + 1) = omega arith in
    let is : c.extend_from_slice.new.self.items ≡ bytes ++ to_le_bytes w64 word = c.in_ok-extend_from_slice.ensures.items ∙ ap (λ b. bytes ++ b) c.to_le_bytes.ensures in
    record {
      reported = c.next_bits-word.ensures.rest ∙ ap (drop 64) c.loop-word.invariant.reported ∙ drop-drop 64 (64 * w) picks ∙ ap (λ k. drop k picks) next;
      long = omega (arith, ap length is, length-append bytes (to_le_bytes w64 word), c.loop-word.invariant.long);
      packed =
          subst (λ (bs : List ℕ). (i : ℕ) → i < 64 * (w + 1) → bit bs i ≡ f i) (sym is)
          (word-more f bytes w word c.loop-word.invariant.long c.loop-word.invariant.packed (bits-word c.args.bits.now picks _ (64 * w) word c.loop-word.invariant.reported c.next_bits-word.ensures.bits));
    }

pub returns : goal.returns
returns g c =
    let picks = g.R.Rows.picks c.args.rows.now in
    let n = c.slots-count.result in
    let w = c.loop-word._word in
    let bytes = c.loop-word.bytes.items in
    let last = c.next_bits-last.result in
    let f = λ (i : ℕ). is_stored c.args.bits.now (get_or picks i None) in
    let end : 64 * w ≡ 64 * (n / 64) = omega arith in
    let size : c.bytes_for-2.result ≡ (n - 64 * w + 7) / 8 = omega (arith, c.bytes_for-2.ensures) in
    let is : c.extend_from_slice-2.new.self.items ≡ bytes ++ take ((n - 64 * w + 7) / 8) (to_le_bytes w64 last) =
    c.in_ok-extend_from_slice-2.ensures.items ∙ (λ i. bytes ++ take (size i) (c.to_le_bytes-2.ensures i)) in
    let here : (k : ℕ) → bit_in last k ≡ (nat_lt k (n - 64 * w) && f (64 * w + k)) =
    λ k. subst (λ m. bit_in last k ≡ (nat_lt k (n - m) && f (64 * w + k))) (sym end) (bits-here c.args.bits.now picks _ (64 * w) _ last c.loop-word.invariant.reported c.next_bits-last.ensures.bits k) in
    let all : ArePlaces f n (bytes ++ take ((n - 64 * w + 7) / 8) (to_le_bytes w64 last)) =
    word-last f bytes n w last c.loop-word.invariant.long (omega arith) (omega arith) c.loop-word.invariant.packed (λ k small. here k) in
    IfOk-weaker c.from_vec.result _ _ (λ b present. packed-bitmap f n (length picks) b c.slots-count.ensures.count (subst (ArePlaces f n) (sym (present ∙ is)) all)) c.from_vec.ensures

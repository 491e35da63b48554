use Rattle.std.proofs.Common.{◌≡◌, ◌∙◌, ◌+◌, ◌-◌, ◌*◌, ◌/◌, ◌<◌, ℕ, length, sym, arith, true, false}
use Rattle.std.proofs.lemmas.Bool.{eq-eqb, eqb-true}
use Rattle.std.proofs.lemmas.List.{get_or_past}
use Rattle.std.proofs.lemmas.List.Elements.{All-from_get_or, All-get_or}
use Rattle.colbits.specs.Bitmap.{bit_of}
use Rattle.colbits.proofs.WordLemmas.{both_ones, ones-shifted, ones_from_word, word_from_ones}
use Rattle.colbits.proofs.bits.Bits.are_ones.Goals as goal

pub returns-then-whole_word : goal.returns-then-whole_word
returns-then-whole_word c =
    let xs = c.args.self.now in
    let n = 64 * c.loop-w.w in (
      λ no. absurd cc,
      λ all. absurd
          (c.if-whole_word.true (word_from_ones xs n 64 c.whole_word.result (omega arith) c.whole_word.type_inv c.whole_word.ensures (λ j past within. absurd (omega arith))
          (λ j within. All-get_or (λ b. b ≡ true) xs (n + j) false (omega arith) all))),
    )

pub loop-w-preserved : goal.loop-w-preserved
loop-w-preserved c =
    let xs = c.args.self.now in
    let n = 64 * c.loop-w.w in
    let here = ones_from_word xs n 64 c.whole_word.result (omega arith) c.whole_word.type_inv c.whole_word.ensures c.if-whole_word.false in
    λ k within. both_ones xs n 64 c.loop-w.invariant here k (omega arith)

pub returns : goal.returns
returns c =
    let xs = c.args.self.now in
    let n = 64 * (c.len-len.result / 64) in
    let rest = c.len-len.result - n in
    let small : rest < 64 = omega arith in
    let whole : n + rest ≡ length xs = omega arith in
    let before : (k : ℕ) → k < n → bit_of xs k ≡ true = λ k low. c.loop-w.invariant k (omega arith) in (
      λ yes. All-from_get_or (λ b. b ≡ true) xs false
          (λ k within. both_ones xs n rest before
          (ones_from_word xs n rest c.word.result (omega arith) c.word.type_inv c.word.ensures (eqb-true c.word.result _ yes ∙ ones-shifted rest small)) k (omega arith)),
      λ all. eq-eqb c.word.result _
          (word_from_ones xs n rest c.word.result (omega arith) c.word.type_inv c.word.ensures (λ j past within. get_or_past xs (n + j) false (omega arith))
          (λ j within. All-get_or (λ b. b ≡ true) xs (n + j) false (omega arith) all)
          ∙ sym (ones-shifted rest small)),
    )

use Rattle.std.proofs.Common.{◌≡◌, ◌≤◌, ◌+◌, ◌*◌, ◌/◌, ◌∙◌, Bool, List, ℕ, count_by, length, drop, take, ap, arith}
use Rattle.std.specs.Int.RustNames.{count_ones}
use Rattle.std.proofs.lemmas.List.{length-take}
use Rattle.std.proofs.lemmas.List.Sums.{count_by-le-length}
use Rattle.colbits.proofs.WordLemmas.{ones-more, ones-of_word, ones-rest}
use Rattle.colbits.proofs.bits.Bits.count_ones.Goals as goal

-- how many of the bits are 1
abbrev ones_in : List Bool → ℕ
ones_in = count_by (λ b. b)

pub loop-w-preserved : goal.loop-w-preserved
loop-w-preserved c =
    let xs = c.args.self.now in
    let n = 64 * c.loop-w.w in
    let here = ones-of_word xs n c.whole_word.result c.whole_word.type_inv c.whole_word.ensures in
    let next : 64 * (c.loop-w.w + 1) ≡ n + 64 = omega arith in
    let sum : c.loop-w.ones + count_ones c.whole_word.result ≡ ones_in (take (64 * (c.loop-w.w + 1)) xs) =
    omega (arith, here, ones-more xs n, c.loop-w.invariant.0, ap (λ m. ones_in (take m xs)) next) in
    let few = count_by-le-length (λ b. b) (take 64 (drop n xs)) in
    (sum, omega (arith, here, few, length-take 64 (drop n xs)))

-- the ones of the whole words, and those of the last
all-ones : (xs : List Bool) (len w ones word : ℕ) → len ≡ length xs → len / 64 ≤ w → ones ≡ ones_in (take (64 * w) xs)
    → count_ones word ≡ ones_in (take 64 (drop (64 * w) xs)) → ones + count_ones word ≡ ones_in xs
all-ones xs len w ones word is end before last = omega (arith, before, last, ones-rest xs (64 * w) (omega arith))

pub returns : goal.returns
returns c =
    let xs = c.args.self.now in
    let words = c.len-words.result / 64 in
    let at : 64 * words ≡ 64 * c.loop-w.w = omega arith in
    let here = ones-of_word xs (64 * words) c.word.result c.word.type_inv c.word.ensures ∙ ap (λ n. ones_in (take 64 (drop n xs))) at in
    all-ones xs c.len-words.result c.loop-w.w c.loop-w.ones c.word.result c.len-words.ensures c.loop-w-test.false c.loop-w.invariant.0 here

pub overflow_add-result : goal.overflow_add-result
overflow_add-result c =
    record { fits = omega (arith, returns c, count_by-le-length (λ b. b) c.args.self.now) }

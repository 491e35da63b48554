use Rattle.std.proofs.Common.{◌≡◌, ◌+◌, ◌*◌, ◌/◌, ◌∙◌, Bool, List, ℕ, count_by, length, drop, take, ap, arith, sym}
use Rattle.std.specs.Int.RustNames.{count_ones}
use Rattle.std.proofs.lemmas.List.{length-take}
use Rattle.std.proofs.lemmas.List.FromFn.{length-map-range_with_len}
use Rattle.std.proofs.lemmas.List.Sums.{count_by-le-length}
use Rattle.arrays.proofs.WordLemmas.{ones-more, ones-of_word}
use Rattle.answers.specs.Masks.{is_set}
use Rattle.answers.proofs.MaskLemmas.{all-ones, reported, reported-count, cell_of_group}
use Rattle.answers.proofs.mask.count.Goals as goal

-- How many of the bits are 1.
abbrev ones_in : List Bool → ℕ
ones_in = count_by (λ b. b)

pub loop-w-preserved : goal.loop-w-preserved
loop-w-preserved c =
    let validity = c.args.mask.now.validity in
    let bits = c.args.mask.now.values in
    let xs = reported validity bits in
    let n = 64 * c.loop-w.w in
    let here = ones-of_word xs n c.word.result c.word.type_inv (λ j h. c.word.ensures j h ∙ cell_of_group validity bits (n + j)) in
    let next : 64 * (c.loop-w.w + 1) ≡ n + 64 = omega arith in
    let sum : c.loop-w.count + count_ones c.word.result ≡ ones_in (take (64 * (c.loop-w.w + 1)) xs) =
    omega (arith, here, ones-more xs n, c.loop-w.invariant.counted, ap (λ m. ones_in (take m xs)) next) in
    let few = count_by-le-length (λ b. b) (take 64 (drop n xs)) in
    record {
      counted = sum;
      few = omega (arith, here, few, length-take 64 (drop n xs));
    }

pub returns : goal.returns
returns c =
    let validity = c.args.mask.now.validity in
    let bits = c.args.mask.now.values in
    let xs = reported validity bits in
    let words = c.len-words.result / 64 in
    let at : 64 * words ≡ 64 * c.loop-w.w = omega arith in
    let here = ones-of_word xs (64 * words) c.word-2.result c.word-2.type_inv (λ j h. c.word-2.ensures j h ∙ cell_of_group validity bits (64 * words + j))
    ∙ ap (λ n. ones_in (take 64 (drop n xs))) at in
    all-ones xs c.len-words.result c.loop-w.w c.loop-w.count c.word-2.result (c.len-words.ensures ∙ sym (length-map-range_with_len (is_set validity bits) 0 (length bits)))
    c.loop-w-test.false c.loop-w.invariant.counted here
    ∙ reported-count validity bits

pub overflow_add-result : goal.overflow_add-result
overflow_add-result c =
    let validity = c.args.mask.now.validity in
    let bits = c.args.mask.now.values in
    record {
      fits = omega (arith, returns c, reported-count validity bits, count_by-le-length (λ b. b) (reported validity bits), length-map-range_with_len (is_set validity bits) 0 (length bits));
    }

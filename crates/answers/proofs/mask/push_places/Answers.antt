use Rattle.std.proofs.Common.{◌≡◌, ◌∙◌, ◌+◌, ◌*◌, ◌/◌, ◌++◌, ap, append_assoc, arith, filter, length, map, sym}
use Rattle.std.specs.List.{range_with_len}
use Rattle.answers.specs.Masks.{is_set, ones_of}
use Rattle.std.proofs.lemmas.Result.{on_ok_weaker}
use Rattle.answers.proofs.MaskLemmas.{not_set, places-more, places-whole}
use Rattle.answers.proofs.mask.push_places.Goals as goal

pub loop-w-preserved : goal.loop-w-preserved
loop-w-preserved c =
    let test = is_set c.args.mask.now.validity c.args.mask.now.values in
    let first = c.args.first in
    let n = 64 * c.loop-w.w in
    let next : 64 * (c.loop-w.w + 1) ≡ n + 64 = omega arith in
    let more = map (λ j. first + n + j) (ones_of c.word.result) in
    c.in_ok-push_ones.ensures ∙ ap (λ l. l ++ more) c.loop-w.invariant
    ∙ append_assoc c.args.places.now.items (map (λ i. first + i) (filter test (range_with_len 0 n))) more
    ∙ ap (λ l. c.args.places.now.items ++ l)
    (sym (ap (λ m. map (λ i. first + i) (filter test (range_with_len 0 m))) next ∙ places-more test first n c.word.result c.word.ensures))

pub returns : goal.returns
returns c =
    let validity = c.args.mask.now.validity in
    let bits = c.args.mask.now.values in
    let test = is_set validity bits in
    let first = c.args.first in
    let before = c.args.places.now.items in
    let n = 64 * (c.len-words.result / 64) in
    let at : 64 * c.loop-w.w ≡ n = omega arith in
    let front = map (λ i. first + i) (filter test (range_with_len 0 n)) in
    let more = map (λ j. first + n + j) (ones_of c.word-2.result) in
    on_ok_weaker c.push_ones-2.result (λ e.
    e ∙ ap (λ l. l ++ more) (c.loop-w.invariant ∙ ap (λ m. before ++ map (λ i. first + i) (filter test (range_with_len 0 m))) at)
    ∙ append_assoc before front more
    ∙ ap (λ l. before ++ l) (sym (places-more test first n c.word-2.result c.word-2.ensures)
    ∙ ap (map (λ i. first + i)) (places-whole test (length bits) (n + 64) (omega (arith, c.len-words.ensures)) (not_set validity bits))))
    c.push_ones-2.ensures

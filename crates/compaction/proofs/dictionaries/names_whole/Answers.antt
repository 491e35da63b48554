use Rattle.std.proofs.Common.{◌≡◌, ◌∙◌, ◌<◌, ◌≤◌, List, ap, arith, false, get_or, length, map, option_map, rules, sym, true}
use Rattle.std.specs.Arc.{arc_value}
use Rattle.std.specs.List.{zip}
use Rattle.std.proofs.lemmas.List.{length-map}
use Rattle.std.proofs.lemmas.Slice.Zip.{length-zip}
use Rattle.arrays.specs.Prelude.{Seen}
use Rattle.compaction.specs.Under.{is_as_long}
use Rattle.compaction.proofs.JoinedLemmas.{SharedWords, as-long-all, as-long-more, as-long-none, words-at, words_of}
use Rattle.compaction.proofs.dictionaries.names_whole.Goals as goal

pub returns-then-not-is_as_long : goal.returns-then-not-is_as_long
returns-then-not-is_as_long c =
    let dictionaries = c.args.dictionaries.now in
    let words = words_of dictionaries in
    let columns = c.args.batch.now.columns in
    let k = c.loop-k.k in
    let s = c.index-columns-k.result in
    let o = option_map (λ (w : SharedWords). arc_value w) c.index-dictionaries-k.result in
    let count : length words ≡ length dictionaries = length-map dictionaries (option_map (λ (w : SharedWords). arc_value w)) in
    let same = ap (λ (l : List Seen). length l) c.columns-columns.ensures.value in
    let in_words : k < length dictionaries = omega (arith, c.loop-k-test.true, c.min-count.ensures) in
    let in_columns : k < length columns = omega (arith, c.loop-k-test.true, c.min-count.ensures, same) in
    let no : is_as_long o s ≡ false = search (rules, c.is_as_long.ensures, c.if-not-is_as_long.ensures) in
    sym (as-long-none words columns k o s (omega (arith, in_words, count)) in_columns (words-at dictionaries k c.index-dictionaries-k.result in_words c.index-dictionaries-k.is)
    (c.index-columns-k.is ∙ ap (λ (l : List Seen). get_or l k s) c.columns-columns.ensures.value) no)

pub loop-k-preserved : goal.loop-k-preserved
loop-k-preserved c =
    let dictionaries = c.args.dictionaries.now in
    let words = words_of dictionaries in
    let columns = c.args.batch.now.columns in
    let k = c.loop-k.k in
    let s = c.index-columns-k.result in
    let o = option_map (λ (w : SharedWords). arc_value w) c.index-dictionaries-k.result in
    let count : length words ≡ length dictionaries = length-map dictionaries (option_map (λ (w : SharedWords). arc_value w)) in
    let same = ap (λ (l : List Seen). length l) c.columns-columns.ensures.value in
    let in_words : k < length dictionaries = omega (arith, c.loop-k-test.true, c.min-count.ensures) in
    let in_columns : k < length columns = omega (arith, c.loop-k-test.true, c.min-count.ensures, same) in
    let yes : is_as_long o s ≡ true = search (rules, c.is_as_long.ensures, c.if-not-is_as_long.ensures) in
    as-long-more words columns k o s (omega (arith, in_words, count)) in_columns (words-at dictionaries k c.index-dictionaries-k.result in_words c.index-dictionaries-k.is)
    (c.index-columns-k.is ∙ ap (λ (l : List Seen). get_or l k s) c.columns-columns.ensures.value) c.loop-k.invariant yes

pub returns : goal.returns
returns c =
    let dictionaries = c.args.dictionaries.now in
    let words = words_of dictionaries in
    let columns = c.args.batch.now.columns in
    let count : length words ≡ length dictionaries = length-map dictionaries (option_map (λ (w : SharedWords). arc_value w)) in
    let same = ap (λ (l : List Seen). length l) c.columns-columns.ensures.value in
    let past : length (zip words columns) ≤ c.loop-k.k = omega (arith, c.loop-k-test.false, c.min-count.ensures, same, count, length-zip words columns) in
    sym (as-long-all words columns c.loop-k.k past c.loop-k.invariant)

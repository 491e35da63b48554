use Rattle.std.proofs.Common.{◌≡◌, ◌∙◌, ◌++◌, true, ap, sym, subst, length, map, All}
use Rattle.std.specs.Arc.{arc_value}
use Rattle.arrays.specs.Prelude.{Seen, int32, is_code, shown, text}
use Rattle.arrays.specs.Kind as kind
use Rattle.pool.specs.Prelude.{code_item, firsts, texts_of}
use Rattle.std.proofs.lemmas.List.{length-map}
use Rattle.table.proofs.RecodedLemmas.{codes-within, column-coded, dictionary-front}
use Rattle.table.proofs.columns.stored_texts.Goals as goal

pub newest-requires : goal.newest-requires
newest-requires c =
    dictionary-front (arc_value c.args.words.now) c.args.pool.now c.recode.new.pool c.requires.words c.recode.ensures.begins

pub dict-requires-clause-codes : goal.dict-requires-clause-codes
dict-requires-clause-codes c =
    let texts = c.recode.new.pool in
    let words : arc_value c.in_ok-dictionary.dictionary ≡ shown kind.utf8 (map text texts) = c.in_ok-dictionary.ensures.cases ∙ c.in_ok-words.ensures in
    let count : length (arc_value c.in_ok-dictionary.dictionary).items ≡ length texts = ap (λ (s : Seen). length s.items) words ∙ length-map texts (λ t. text t) in
    subst (λ n. All (λ x. is_code n x ≡ true) c.in_ok-codes.codes.items) (sym count)
    (subst (λ l. All (λ x. is_code (length texts) x ≡ true) l) (sym c.in_ok-codes.ensures.codes) (codes-within texts c.view.result.items))

pub returns-clause-column : goal.returns-clause-column
returns-clause-column c =
    let view : c.view.result.items ≡ c.args.column.now.items = ap (λ (s : Seen). s.items) c.view.ensures in
    c.dict.ensures ∙ column-coded c.args.pool.now c.recode.new.pool c.args.column.now c.in_ok-codes.codes (arc_value c.in_ok-dictionary.dictionary) c.requires.text
    (subst (λ l. c.recode.new.pool ≡ firsts (c.args.pool.now ++ texts_of l)) view c.in_ok-codes.ensures.texts)
    (subst (λ l. c.in_ok-codes.codes ≡ shown (kind.int int32) (map (code_item c.recode.new.pool) l)) view c.in_ok-codes.ensures.whole)
    (c.in_ok-dictionary.ensures.cases ∙ c.in_ok-words.ensures)

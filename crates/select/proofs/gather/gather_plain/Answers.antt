use Rattle.std.proofs.Common.{◌≡◌, ◌∙◌, true, ap, subst, sym, length, All}
use Rattle.std.specs.Arc.{arc_value}
use Rattle.arrays.specs.Prelude.{Entries, Seen, entries_shown, int32, is_code, shown}
use Rattle.arrays.specs.Kind as kind
use Rattle.select.specs.Prelude.{IsPick, chosen, picked}
use Rattle.select.proofs.ChosenLemmas.{codes-picked, encoded-picked, length-codes}
use Rattle.select.proofs.gather.gather_plain.Goals as goal

pub dict-requires-clause-codes : goal.dict-requires-clause-codes
dict-requires-clause-codes g c =
    let s = c.args.view.now in
    let picks = g.R.Rows.picks c.args.rows.now in
    let codes : c.codes.result.items ≡ s.codes = ap (λ (q : Seen). q.items) c.codes.ensures.value in
    let made : c.in_ok-codes-in-Dict.codes.items ≡ picked s.codes picks = ap (λ (q : Seen). q.items) c.in_ok-codes-in-Dict.ensures ∙ ap (λ l. picked l picks) codes in
    let entries : (arc_value c.in_ok-clone-in-Dict.field-0).items ≡ s.entries.items =
    ap (λ (q : Seen). q.items) c.in_ok-clone-in-Dict.ensures.cases ∙ ap (λ (e : Entries). e.items) c.dictionary.ensures in
    let within = subst (λ n. All (IsPick n) picks) (sym (length-codes s c.codes.ensures.items)) c.requires.within in
    subst (λ l. All (λ x. is_code (length (arc_value c.in_ok-clone-in-Dict.field-0).items) x ≡ true) l) (sym made)
    (subst (λ l. All (λ x. is_code (length l) x ≡ true) (picked s.codes picks)) (sym entries) (codes-picked (length s.entries.items) s.codes picks c.codes.ensures.within within))

pub returns-in_ok-clone-in-Dict-clause-ok : goal.returns-in_ok-clone-in-Dict-clause-ok
returns-in_ok-clone-in-Dict-clause-ok g c =
    let s = c.args.view.now in
    let picks = g.R.Rows.picks c.args.rows.now in
    let codes : c.codes.result.items ≡ s.codes = ap (λ (q : Seen). q.items) c.codes.ensures.value in
    let shows : entries_shown (arc_value c.in_ok-clone-in-Dict.field-0) ≡ s.entries = ap entries_shown c.in_ok-clone-in-Dict.ensures.cases ∙ c.dictionary.ensures in
    let made = c.in_ok-codes-in-Dict.ensures ∙ ap (λ l. shown (kind.int int32) (picked l picks)) codes in
    c.dict.ensures
    ∙ encoded-picked s (arc_value c.in_ok-clone-in-Dict.field-0) c.in_ok-codes-in-Dict.codes picks c.codes.ensures.items shows made
    ∙ ap (λ k. chosen k (λ items. picked items picks) s) c.in-Dict.ensures

use Rattle.std.proofs.Common.{◌∙◌, ap, subst, sym}
use Rattle.std.specs.List.{AllZip}
use Rattle.arrays.specs.Batch.{Batch}
use Rattle.compaction.specs.Under.{NamesWhole, are_as_long}
use Rattle.compaction.proofs.JoinedLemmas.{names-whole, words_of}
use Rattle.compaction.proofs.dictionaries.with_dictionaries.Goals as goal

pub returns-then-names_whole-clause-whole : goal.returns-then-names_whole-clause-whole
returns-then-names_whole-clause-whole c =
    let words = words_of c.args.dictionaries.now in
    let long = ap (λ (b : Batch). are_as_long words b.columns) (sym c.deref.ensures) ∙ sym c.if-names_whole.ensures in
    subst (λ (b : Batch). AllZip NamesWhole b.columns words) (sym c.in_ok-clone.ensures.cases) (names-whole _ words c.requires.under.fronts long)

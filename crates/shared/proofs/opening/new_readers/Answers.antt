use Rattle.std.proofs.Common.{◌∙◌, [], ◌∷◌, ◌++◌, List, ap, replicate}
use Rattle.std.proofs.lemmas.List.{replicate-append-replicate}
use Rattle.shared.specs.Prelude.{Known, known_after}
use Rattle.shared.proofs.KnownLemmas.{known_none}
use Rattle.shared.proofs.opening.new_readers.Goals as goal

pub loop-reader-preserved : goal.loop-reader-preserved
loop-reader-preserved g c =
    let k = c.loop-reader._reader in
    let none : Known = record { fields = g.N.Naming-1.fields; history = [] } in
    c.in_ok-push.ensures.items
    ∙ ap (λ (l : List Known). l ++ c.new.result ∷ []) c.loop-reader.invariant
    ∙ ap (λ (r : Known). replicate k none ++ r ∷ []) (c.new.ensures ∙ ap (known_after g.N.Naming-1.fields) (c.again.ensures ∙ c.requires.front) ∙ known_none g.N.Naming-1.fields)
    ∙ replicate-append-replicate k 1 none

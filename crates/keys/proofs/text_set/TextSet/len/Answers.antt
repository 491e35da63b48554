use Rattle.std.proofs.Common.{refl, subst}
use Rattle.std.specs.List.{IsDistinct}
use Rattle.std.specs.Str.{bytes_eq}
use Rattle.std.specs.String.{string_bytes, string_eq}
use Rattle.keys.proofs.PartLemmas.{distinct-map}
use Rattle.keys.proofs.text_set.TextSet.len.Goals as goal

pub returns-clause-once : goal.returns-clause-once
returns-clause-once c =
    subst (IsDistinct bytes_eq) c.self.view_is (distinct-map string_bytes string_eq bytes_eq (λ x y. refl) c.self.inside.texts.keys c.len.ensures.unique)

use Rattle.std.proofs.Common.{◌≡◌, ◌∙◌, IfOk, ap, subst}
use Rattle.types.specs.Kind as kind
use Rattle.types.specs.Kind.{same_kind}
use Rattle.layout.specs.Prelude.{Reading, Seen, checked, reading}
use Rattle.arrays.proofs.ListArrays.{read-wordless}
use Rattle.arrays.proofs.array.Array.into_raw.Goals as goal

pub returns : goal.returns
returns c =
    let a = c.self.inside in
    let wordless = read-wordless a c.self.invariant (ap (λ (s : Seen). same_kind s.kind kind.dict) c.self.view_is ∙ c.requires) in
    subst (λ (r : Reading). IfOk c.into_raw.result (λ raw. reading raw ≡ r)) (wordless ∙ ap checked c.self.view_is) c.into_raw.ensures

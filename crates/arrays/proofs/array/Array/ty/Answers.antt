use Rattle.std.proofs.Common.{◌∙◌, ap, sym}
use Rattle.std.specs.Arc.{arc_value}
use Rattle.types.specs.Kind.{kind_of}
use Rattle.layout.specs.Seen.{Seen}
use Rattle.layout.proofs.ChildLemmas.{same_kinds}
use Rattle.arrays.specs.Array.{kind_with}
use Rattle.arrays.specs.declared.array.parts.Parts.{Parts}
use Rattle.arrays.proofs.PartsLemmas.{kind-array}
use Rattle.arrays.proofs.array.Array.ty.Goals as goal
use Rattle.types.specs.Kind as kind

pub returns-in-Some : goal.returns-in-Some
returns-in-Some c =
    let a = c.self.inside in
    same_kinds (kind_of c.in-Some.encoding.ty) kind.dict c.in-Some.encoding.is_dict
    ∙ ap (kind_with (kind_of (arc_value a.parts).ty)) (sym c.in-Some.is)
    ∙ sym (kind-array a)
    ∙ ap (λ (s : Seen). s.kind) c.self.view_is

pub returns-in-None : goal.returns-in-None
returns-in-None c =
    let a = c.self.inside in
    ap (λ (p : Parts). kind_of p.ty) c.deref.ensures
    ∙ ap (kind_with (kind_of (arc_value a.parts).ty)) (sym c.in-None.is)
    ∙ sym (kind-array a)
    ∙ ap (λ (s : Seen). s.kind) c.self.view_is

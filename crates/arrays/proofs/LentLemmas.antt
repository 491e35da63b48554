-- Lemmas about parts that are lent.
use Rattle.std.proofs.Common.{◌≡◌, ◌∙◌, ap, sym}
use Rattle.std.specs.Arc.{arc_value}
use Rattle.types.specs.Kind.{Kind, kind_of}
use Rattle.layout.specs.Prelude.{Reading, Seen}
use Rattle.arrays.specs.Prelude.{kind_with, read_array, read_lent, show_array}
use Rattle.arrays.specs.declared.array.Array.TheInside.{Inside}
use Rattle.arrays.specs.declared.lent.LentParts.{LentParts}
use Rattle.arrays.proofs.PartsLemmas.{kind-array}

-- The reading of lent parts that are those of an array.
pub lent-array : (a : Inside) (s : Seen) (p : LentParts)
    → show_array a ≡ s
    → read_lent (kind_with (kind_of (arc_value a.parts).ty) a.encoding) p ≡ read_array a
    → read_lent s.kind p ≡ read_array a
lent-array a s p is same =
    ap (λ (k : Kind). read_lent k p) (sym (ap (λ (x : Seen). x.kind) is) ∙ kind-array a) ∙ same

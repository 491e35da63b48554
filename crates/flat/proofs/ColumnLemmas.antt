-- What a field's parts are, by its kind.
use Rattle.std.proofs.Common.{◌≡◌, ◌∙◌, ℕ, List, ◌∷◌, Some, None, ap, sym}
use Rattle.arrays.specs.Prelude.{Field, LayoutFault, Reading, Seen, field_of, kind_of, kind_of_field, out-Field}
use Rattle.arrays.proofs.ShapeLemmas.{kind_of_field-field_of}
use Rattle.flat.specs.Prelude.{IsColumn, StopsArray, read_column}
use Rattle.flat.specs.declared.fault.FlatFault.{FlatFault}
use Rattle.flat.specs.declared.fault.FlatFault.TheVariants.{Layout}
use Rattle.flat.specs.declared.node.Node.{Node}

read_by_field : (f : Field) (n : Node) (behind : List Node) (r : Reading) → r ≡ read_column (kind_of (out-Field f).ty) n behind → read_column (kind_of_field (field_of f)) n behind ≡ r
read_by_field f n behind r is = ap (λ k. read_column k n behind) (kind_of_field-field_of f) ∙ sym is

-- parts without a fault
pub shown : (f : Field) (n : Node) (behind : List Node) (r : Reading) (s : Seen) → r ≡ read_column (kind_of (out-Field f).ty) n behind → r.fault ≡ None → s ≡ r.seen → IsColumn (n ∷ behind) (field_of f) s
shown f n behind r s is lawful shows =
    let same = read_by_field f n behind r is in
    (ap (λ x. x.fault) same ∙ lawful, shows ∙ ap (λ x. x.seen) (sym same))

-- parts with one
pub stopped : (column : ℕ) (f : Field) (n : Node) (behind : List Node) (r : Reading) (layout : LayoutFault) (e : FlatFault) → r ≡ read_column (kind_of (out-Field f).ty) n behind → r.fault ≡ Some layout → e ≡ Layout column layout
    → StopsArray column (n ∷ behind) (field_of f) e
stopped column f n behind r layout e is stands named = (layout, ap (λ x. x.fault) (read_by_field f n behind r is) ∙ stands, named)

-- The kind of a view of numbers, by its type.
use Rattle.std.proofs.Common.{◌≡◌, ◌∙◌, true, false, ap, sym, refl, ℤ, FitsSigned, Bool, arith}
use Rattle.std.proofs.lemmas.Bool.{false≢true}
use Rattle.std.specs.Int.{w128}
use Rattle.std.proofs.lemmas.Int.{ints}
use Rattle.types.specs.declared.int_type.IntType.{IntType}
use Rattle.arrays.specs.declared.view.ViewType.{ViewType}
use Rattle.arrays.specs.declared.view.ViewType.TheVariants as type
use Rattle.arrays.specs.declared.view.View.TheInside.{Inside}
use Rattle.types.specs.Kind as kind
use Rattle.types.specs.declared.int_type.Width.{Width}
use Rattle.types.specs.declared.int_type.Width.TheVariants.{W8, W16, W32, W64}
use Rattle.layout.specs.Seen.{Seen}
use Rattle.arrays.specs.Prelude.{IsOfType, is_int, show_view, view_kind}
use Rattle.arrays.proofs.PartLemmas.{kind_shown}

pub int_kind : (v : Inside) (s : Seen) (int : IntType) → show_view v ≡ s → v.ty ≡ type.Int int → s.kind ≡ kind.int int
int_kind v s int shows is = sym (kind_shown v s shows) ∙ ap view_kind is

int_type : (ty : ViewType) → ((int : IntType) → ty ≡ type.Int int → ⊥) → is_int (view_kind ty) ≡ false
int_type (type.Int t) h = absurd (h t refl)
int_type type.Bool h = refl
int_type (type.Text w) h = refl
int_type (type.List w item) h = refl
int_type type.Dict h = refl

-- a view of numbers has a type of numbers
pub some_int : (v : Inside) (s : Seen) → show_view v ≡ s → ((int : IntType) → v.ty ≡ type.Int int → ⊥) → is_int s.kind ≡ true → ⊥
some_int v s shows h int =
    let no : is_int s.kind ≡ false = sym (ap is_int (kind_shown v s shows)) ∙ int_type v.ty h in
    false≢true (sym no ∙ int)

-- ---- a number of any type fits 128 bits

wide : (w : Width) (signed : Bool) (z : ℤ) → IsOfType (record { bits = w; signed = signed }) z → FitsSigned w128 z
wide W8 true z h = omega (arith, ints)
wide W8 false z h = omega (arith, ints)
wide W16 true z h = omega (arith, ints)
wide W16 false z h = omega (arith, ints)
wide W32 true z h = omega (arith, ints)
wide W32 false z h = omega (arith, ints)
wide W64 true z h = omega (arith, ints)
wide W64 false z h = omega (arith, ints)

-- a number of any type is one of 128 bits
pub FitsSigned-from_type : (t : IntType) (z : ℤ) → IsOfType t z → FitsSigned w128 z
FitsSigned-from_type t z h = wide t.bits t.signed z h

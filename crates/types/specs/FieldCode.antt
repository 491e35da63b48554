-- Codes of kinds and fields: by them a proof tells such values apart.
use Rattle.std.specs.Prelude.{◌≡◌, ℕ, zero, suc, false, List, [], ◌∷◌, Bool, refl}
use Rattle.std.specs.Coded.{Coded, code_by, coded_ℕ, coded_bool, coded_list, coded×, coded⊎}
use Rattle.std.proofs.Common.{◌⊎◌, inl, inr, ap}
use Rattle.types.specs.declared.int_type.Width.{Width}
use Rattle.types.specs.declared.int_type.Width.TheVariants.{W8, W16, W32, W64}
use Rattle.types.specs.declared.int_type.IntType.{IntType}
use Rattle.types.specs.declared.offset_width.OffsetWidth.{OffsetWidth}
use Rattle.types.specs.declared.offset_width.OffsetWidth.TheVariants.{Narrow, Wide}
use Rattle.types.specs.Kind as kind
use Rattle.types.specs.Kind.{Kind}
use Rattle.types.specs.Shape as shape
use Rattle.types.specs.Shape.{Shape, FieldShape, field}

-- ---- kinds, as the widths of the lists in one another and what is inside

abbrev width_code : Width → ℕ
width_code W8 = 0
width_code W16 = 1
width_code W32 = 2
width_code W64 = 3

abbrev width_of_code : ℕ → Width
width_of_code zero = W8
width_of_code (suc zero) = W16
width_of_code (suc (suc zero)) = W32
width_of_code (suc (suc (suc n))) = W64

pub width_again : (w : Width) → width_of_code (width_code w) ≡ w
width_again W8 = refl
width_again W16 = refl
width_again W32 = refl
width_again W64 = refl

abbrev pub int_code : Coded IntType
int_code = code_by (ℕ × Bool) (coded× coded_ℕ coded_bool) (λ t. (width_code t.bits, t.signed)) (λ p. record { bits = width_of_code p.0; signed = p.1 }) (λ t. ap (λ w. record { bits = w; signed = t.signed }) (width_again t.bits))

abbrev offset_number : OffsetWidth → ℕ
offset_number Narrow = 0
offset_number Wide = 1

abbrev offsets_of : ℕ → OffsetWidth
offsets_of zero = Narrow
offsets_of (suc n) = Wide

pub offsets_again : (w : OffsetWidth) → offsets_of (offset_number w) ≡ w
offsets_again Narrow = refl
offsets_again Wide = refl

abbrev pub offsets_code : Coded OffsetWidth
offsets_code = code_by ℕ coded_ℕ offset_number offsets_of offsets_again

-- An integer type, the offsets of a text, or by number 0 a truth value, 1 a dictionary.
abbrev Inside : Type 0
Inside = IntType ⊎ (OffsetWidth ⊎ ℕ)

abbrev inside_code : Coded Inside
inside_code = coded⊎ int_code (coded⊎ offsets_code coded_ℕ)

abbrev widths : Kind → List OffsetWidth
widths (kind.lists w k) = w ∷ widths k
widths k = []

abbrev inside : Kind → Inside
inside (kind.int t) = inl t
inside kind.boolean = inr (inr 0)
inside (kind.texts w) = inr (inl w)
inside (kind.lists w k) = inside k
inside kind.dict = inr (inr 1)

abbrev base : Inside → Kind
base (inl t) = kind.int t
base (inr (inl w)) = kind.texts w
base (inr (inr zero)) = kind.boolean
base (inr (inr (suc n))) = kind.dict

abbrev nested : List OffsetWidth → Kind → Kind
nested [] k = k
nested (w ∷ ws) k = kind.lists w (nested ws k)

pub kind_again : (k : Kind) → nested (widths k) (base (inside k)) ≡ k
kind_again (kind.int t) = refl
kind_again kind.boolean = refl
kind_again (kind.texts w) = refl
kind_again (kind.lists w k) = ap (kind.lists w) (kind_again k)
kind_again kind.dict = refl

abbrev pub kind_code : Coded Kind
kind_code = code_by (List OffsetWidth × Inside) (coded× (coded_list offsets_code) inside_code) (λ k. (widths k, inside k)) (λ p. nested p.0 (base p.1)) kind_again

-- ---- fields, as the fields of the lists in one another and what is inside

-- A field without its type, and the width of the list whose items it is of: any width where it is of none.
abbrev Named : Type 0
Named = OffsetWidth × (List ℕ × Bool)

abbrev mutual
  named : Shape → List Named
  named (shape.lists w f) = named_of w f
  named s = []

  named_of : OffsetWidth → FieldShape → List Named
  named_of w (field name nullable s) = (w, (name, nullable)) ∷ named s

abbrev mutual
  shape_inside : Shape → Inside
  shape_inside (shape.int t) = inl t
  shape_inside shape.boolean = inr (inr 0)
  shape_inside (shape.texts w) = inr (inl w)
  shape_inside (shape.lists w f) = field_inside f
  shape_inside shape.dict = inr (inr 1)

  field_inside : FieldShape → Inside
  field_inside (field name nullable s) = shape_inside s

abbrev shape_base : Inside → Shape
shape_base (inl t) = shape.int t
shape_base (inr (inl w)) = shape.texts w
shape_base (inr (inr zero)) = shape.boolean
shape_base (inr (inr (suc n))) = shape.dict

abbrev shape_in : List Named → Shape → Shape
shape_in [] s = s
shape_in (n ∷ ns) s = shape.lists n.0 (field n.1.0 n.1.1 (shape_in ns s))

abbrev field_in : List Named → Shape → FieldShape
field_in [] s = field [] false s
field_in (n ∷ ns) s = field n.1.0 n.1.1 (shape_in ns s)

mutual
  shape_again : (s : Shape) → shape_in (named s) (shape_base (shape_inside s)) ≡ s
  shape_again (shape.int t) = refl
  shape_again shape.boolean = refl
  shape_again (shape.texts w) = refl
  shape_again (shape.lists w f) = list_again w f
  shape_again shape.dict = refl

  list_again : (w : OffsetWidth) (f : FieldShape) → shape_in (named_of w f) (shape_base (field_inside f)) ≡ shape.lists w f
  list_again w (field name nullable s) = ap (λ t. shape.lists w (field name nullable t)) (shape_again s)

pub field_again : (f : FieldShape) → field_in (named_of Narrow f) (shape_base (field_inside f)) ≡ f
field_again (field name nullable s) = ap (field name nullable) (shape_again s)

abbrev pub field_code : Coded FieldShape
field_code = code_by (List Named × Inside) (coded× (coded_list (coded× offsets_code (coded× (coded_list coded_ℕ) coded_bool))) inside_code) (λ f. (named_of Narrow f, field_inside f)) (λ p. field_in p.0 (shape_base p.1)) field_again

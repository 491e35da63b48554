-- Nulls with a dictionary, and lists that are null.
use Rattle.std.proofs.Common.{◌≡◌, ◌∙◌, ℕ, zero, suc, List, [], ◌∷◌, Option, None, ap, replicate, refl, sym}
use Rattle.types.specs.declared.data_type.Field.{Field, out-Field}
use Rattle.types.specs.declared.offset_width.OffsetWidth.{OffsetWidth}
use Rattle.types.specs.Prelude.{Kind, boolean, dict, field_of, int, int32, kind_of, kind_of_field, lists, texts, utf8}
use Rattle.types.proofs.ShapeLemmas.{kind_of_field-field_of}
use Rattle.layout.specs.Prelude.{Item, Seen, null}
use Rattle.arrays.specs.Prelude.{cut, encoded, nulls, shown}

-- null codes with no entries are nulls
pub null_codes : (codes entries : Seen) (n : ℕ) → codes ≡ nulls (int int32) n → entries ≡ nulls utf8 0 → encoded codes entries ≡ nulls dict n
null_codes codes entries n is are = cc (is, are)

-- a field with the same shape has the same kind
pub same_item : (f g : Field) → field_of f ≡ field_of g → kind_of (out-Field f).ty ≡ kind_of (out-Field g).ty
same_item f g same = sym (kind_of_field-field_of f) ∙ ap kind_of_field same ∙ kind_of_field-field_of g

pub nulls_kind : (k : Kind) (n : ℕ) → (nulls k n).kind ≡ k
nulls_kind dict n = refl
nulls_kind (int t) n = refl
nulls_kind boolean n = refl
nulls_kind (texts w) n = refl
nulls_kind (lists w k) n = refl

no_items : (k : Kind) → (nulls k 0).items ≡ []
no_items dict = refl
no_items (int t) = refl
no_items boolean = refl
no_items (texts w) = refl
no_items (lists w k) = refl

nulls_cut : (n : ℕ) → cut (replicate n None) [] ≡ replicate n null
nulls_cut zero = refl
nulls_cut (suc n) = ap (λ (xs : List Item). null ∷ xs) (nulls_cut n)

-- so many nulls cut from no items are null lists
pub null_lists : (v w : OffsetWidth) (k : Kind) (n : ℕ) (lengths : List (Option ℕ)) (child : Seen) → v ≡ w → lengths ≡ replicate n None → child ≡ nulls k 0
    → shown (lists v child.kind) (cut lengths child.items) ≡ nulls (lists w k) n
null_lists v w k n lengths child same are is =
    ap (λ (u : OffsetWidth). shown (lists u child.kind) (cut lengths child.items)) same
    ∙ ap (λ (l : List (Option ℕ)). shown (lists w child.kind) (cut l child.items)) are
    ∙ ap (λ (s : Seen). shown (lists w s.kind) (cut (replicate n None) s.items)) is
    ∙ ap (λ (j : Kind). shown (lists w j) (cut (replicate n None) (nulls k 0).items)) (nulls_kind k 0)
    ∙ ap (λ (xs : List Item). shown (lists w k) (cut (replicate n None) xs)) (no_items k)
    ∙ ap (shown (lists w k)) (nulls_cut n)

-- A worker's share of a history, entry by entry, and the parts of a field.
use Rattle.std.proofs.Common.{◌≡◌, ℕ, zero, suc, ◌+◌, ◌==◌, Bool, true, false, [], ◌∷◌, length, drop, cond, Some, ap, arith, length-append, string_bytes, subst}
use Rattle.std.specs.List.{slice_get}
use Rattle.arrays.specs.Prelude.{Field, FieldShape, Shape, field_of, field_step, fold_out-Field, is_nullable, kind_of, kind_of_field, name_of, out-Field, shape_step}
use Rattle.arrays.proofs.ShapeLemmas.{kind_of_field-field_of}
use Rattle.table.specs.Prelude.{History, book, of, rows}

-- What a worker has of an entry and of those behind it.
abbrev pub IsShare : History → History → ℕ → ℕ × ℕ → Type 0
IsShare h rest w e =
    (length (of h w) ≡ cond (e.0 == w) 1 0 + length (of rest w))
    × (length (rows (of h w)) ≡ cond (e.0 == w) e.1 0 + length (rows (of rest w)))

pub share_at : (h : History) (i w : ℕ) (e : ℕ × ℕ) → slice_get (book h) i ≡ Some e → IsShare (drop i h) (drop (i + 1) h) w e
share_at [] i w e at = absurd cc
share_at (p ∷ h) zero w e at = let is : (p.0, length p.1) ≡ e = cc in subst (IsShare (p ∷ h) h w) is (counted (p.0 == w))
  where
    counted : (own : Bool) → (length (cond own (p ∷ of h w) (of h w)) ≡ cond own 1 0 + length (of h w)) × (length (rows (cond own (p ∷ of h w) (of h w))) ≡ cond own (length p.1) 0 + length (rows (of h w)))
    counted true = (omega arith, length-append p.1 (rows (of h w)))
    counted false = (omega arith, omega arith)
share_at (p ∷ h) (suc i) w e at = let next : suc i + 1 ≡ suc (i + 1) = omega arith in rw next (share_at h i w e at)

-- A field's parts are those of its shape.
pub field_parts : (f : Field) → (name_of (field_of f) ≡ string_bytes (out-Field f).name) × (kind_of_field (field_of f) ≡ kind_of (out-Field f).ty) × (is_nullable (field_of f) ≡ (out-Field f).nullable)
field_parts f =
    let is = fold_out-Field Shape FieldShape shape_step field_step f in
    (ap name_of is, kind_of_field-field_of f, ap is_nullable is)

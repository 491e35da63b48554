-- The type of the column at a place, by its field.
use Rattle.std.proofs.Common.{◌≡◌, ◌∙◌, ℕ, ◌<◌, ◌≤◌, List, length, get_or, option_map, ap, refl}
use Rattle.std.proofs.lemmas.Option.{slice_get-map, slice_get_past, slice_get_read}
use Rattle.arrays.proofs.ShapeLemmas.{kind_of_field-field_of}
use Rattle.arrays.specs.Prelude.{Field, field_of, fields_of, kind_of, out-Field}
use Rattle.results.specs.Types.{type_at, type_of_field, type_of_kind}
use Rattle.results.specs.declared.result_type.ResultType.TheVariants.{Text}

pub type_at-field : (fields : List Field) (place : ℕ) (f : Field) → place < length fields → f ≡ get_or fields place f → type_at (fields_of fields) place ≡ type_of_kind (kind_of (out-Field f).ty)
type_at-field fields place f within is =
    ap type_of_field (slice_get-map field_of fields place ∙ ap (option_map field_of) (slice_get_read fields (length fields) place f refl within is))
    ∙ ap type_of_kind (kind_of_field-field_of f)

pub type_at-past : (fields : List Field) (place : ℕ) → length fields ≤ place → type_at (fields_of fields) place ≡ Text
type_at-past fields place past = ap type_of_field (slice_get-map field_of fields place ∙ ap (option_map field_of) (slice_get_past fields place past))

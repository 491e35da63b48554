-- Fields and what is reported of them.
use Rattle.std.proofs.Common.{◌≡◌, ◌∙◌, ℕ, ◌<◌, ◌≤◌, List, length, get_or, option_map, position, Ok, Err, ap, refl}
use Rattle.std.specs.Prelude.{string_bytes, unwrap_or}
use Rattle.std.proofs.lemmas.List.{length-map}
use Rattle.std.proofs.lemmas.Option.{slice_get-map, slice_get_past, slice_get_read}
use Rattle.types.proofs.SchemaLemmas.{position-map}
use Rattle.types.proofs.ShapeLemmas.{kind_of_field-field_of}
use Rattle.types.specs.Prelude.{FieldShape, Shape, field_of, field_step, fields_of, kind_of, name_of, shape_step}
use Rattle.types.specs.declared.data_type.Field.{Field, fold_out-Field, out-Field}
use Rattle.query.specs.Prelude.{has_name, place_of, sort_at, sort_of_field, sort_of_kind}
use Rattle.query.specs.declared.fault.QueryFault.TheVariants.{NoColumn}

pub name_of-field_of : (f : Field) → name_of (field_of f) ≡ string_bytes (out-Field f).name
name_of-field_of f = ap name_of (fold_out-Field Shape FieldShape shape_step field_step f)

pub position-fields : (name : List ℕ) (fields : List Field) → position (has_name name) (fields_of fields) ≡ position (λ f. has_name name (field_of f)) fields
position-fields name fields = position-map (has_name name) (λ f. has_name name (field_of f)) field_of (λ f. refl) fields

pub place_of-fields : (fields : List Field) (name : List ℕ) → place_of (fields_of fields) name ≡ unwrap_or (position (λ f. has_name name (field_of f)) fields) (length fields)
place_of-fields fields name =
    ap (λ o. unwrap_or o (length (fields_of fields))) (position-fields name fields)
    ∙ ap (unwrap_or (position (λ f. has_name name (field_of f)) fields)) (length-map fields field_of)

-- the sort at a position is that of the field there
pub sort_at-field : (fields : List Field) (place : ℕ) (f : Field) → place < length fields → f ≡ get_or fields place f → sort_at (fields_of fields) place ≡ Ok (sort_of_kind (kind_of (out-Field f).ty))
sort_at-field fields place f within is =
    ap sort_of_field (slice_get-map field_of fields place ∙ ap (option_map field_of) (slice_get_read fields (length fields) place f refl within is))
    ∙ ap (λ k. Ok (sort_of_kind k)) (kind_of_field-field_of f)

-- past the fields there is none
pub sort_at-past : (fields : List Field) (place : ℕ) → length fields ≤ place → sort_at (fields_of fields) place ≡ Err NoColumn
sort_at-past fields place past = ap sort_of_field (slice_get-map field_of fields place ∙ ap (option_map field_of) (slice_get_past fields place past))

pub ruleset fields = (name_of-field_of, kind_of_field-field_of)

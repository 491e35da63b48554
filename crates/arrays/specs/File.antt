-- A schema and batches of its types.
use Rattle.std.specs.Prelude.{◌≡◌, ℕ, List, map, slice_get, Some, refl}
use Rattle.types.specs.Prelude.{FieldShape, Kind, field_code, kind_of_field}
use Rattle.arrays.specs.Batch.{Batch, batch_code}
use Rattle.std.specs.Coded.{Coded, code_by, coded_list, coded×}

pub record File : Type 0 where
  pub fields : List FieldShape
  pub batches : List Batch

abbrev pub kinds_of : List FieldShape → List Kind
kinds_of = map kind_of_field

-- Each batch has the types of the fields.
abbrev pub AreBatchesOf : List FieldShape → List Batch → Type 0
AreBatchesOf fields batches = (i : ℕ) (b : Batch) → slice_get batches i ≡ Some b → kinds_of b.fields ≡ kinds_of fields

-- By it a proof tells files apart.
abbrev pub file_code : Coded File
file_code = code_by (List FieldShape × List Batch) (coded× (coded_list field_code) (coded_list batch_code)) (λ f. (f.fields, f.batches)) (λ p. record { fields = p.0; batches = p.1 }) (λ _. refl)

-- One field by itself. (Arrow integration testing, "JSON test data format", Field; RFC 8259 for the text)
use Rattle.std.specs.Prelude.{◌≡◌, ℕ, List, [], Some, None, IsUtf8}
use Rattle.arrays.specs.Prelude.{FieldShape}
use Rattle.json_base.specs.Prelude.{Data, read}
use Rattle.json_read.specs.JsonFields.{ReadsField}
use Rattle.json_read.specs.JsonFieldsFault.{TopFault}
use Rattle.json_base.specs.declared.path.Step.{Step}
use Rattle.json_base.specs.declared.fault.JsonFaultKind.{JsonFaultKind}
use Rattle.json_base.specs.declared.fault.JsonFaultKind.TheVariants.{NotJson}

-- The bytes are the text of the field's object.
pub record IsFieldText (bytes : List ℕ) (f : FieldShape) : Type 0 where
  pub text : IsUtf8 bytes
  pub document : Data
  pub parsed : read bytes ≡ Some document
  pub field : ReadsField document f

-- What can be wrong.
pub data FieldTextFault (bytes : List ℕ) : JsonFaultKind → List Step → Type 0 where
  -- no UTF-8, or no JSON that is nested at most 127 deep
  no_field_text : (IsUtf8 bytes → read bytes ≡ None) → FieldTextFault bytes NotJson []
  bad_field_text : (d : Data) (kind : JsonFaultKind) (path : List Step) → IsUtf8 bytes → read bytes ≡ Some d → TopFault d kind path → FieldTextFault bytes kind path

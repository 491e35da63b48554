-- What a file says. (Arrow integration testing, "JSON test data format"; RFC 8259 for the text)
use Rattle.std.specs.Prelude.{◌≡◌, ℕ, List, [], ◌∷◌, map, Option, Some, None, option_and_then, IsUtf8}
use Rattle.std.specs.List.{AllByRecursion}
use Rattle.arrays.specs.Prelude.{Batch, FieldShape, File}
use Rattle.json_base.specs.Prelude.{Data, EachFault, FileData, Items, MemberFault, ReadsEach, Unlike, as_array, as_object, member_of, read, table_of}
use Rattle.json_read.specs.JsonFields.{ReadsSchema}
use Rattle.json_read.specs.JsonFieldsFault.{SchemaFault}
use Rattle.json_read.specs.JsonCatalog.{Coding, HasCatalog}
use Rattle.json_read.specs.JsonCatalogFault.{CatalogFault}
use Rattle.json_read.specs.JsonBatch.{ReadsBatch}
use Rattle.json_read.specs.JsonBatchFault.{BatchFault}
use Rattle.json_base.specs.declared.path.Member.TheVariants as member
use Rattle.json_base.specs.declared.path.Step.{Step}
use Rattle.json_base.specs.declared.path.Step.TheVariants as step
use Rattle.json_base.specs.declared.fault.JsonFaultKind.{JsonFaultKind}
use Rattle.json_base.specs.declared.fault.JsonFaultKind.TheVariants.{NotJson}

-- What a file that was read holds, without where it lies in memory.
abbrev pub file_of : File → FileData
file_of f = record { fields = f.fields; tables = map table_of f.batches }

-- Each batch is under the fields.
abbrev pub AreUnder : List FieldShape → List Batch → Type 0
AreUnder fields batches = AllByRecursion (λ b. b.fields ≡ fields) batches

-- The document has the schema of the fields.
pub record HasSchema (d : Data) (fields : List FieldShape) : Type 0 where
  pub schema : Data
  pub at_schema : member_of member.Schema d ≡ Some schema
  pub reads : ReadsSchema schema fields

-- The document of a file.
pub record ReadsFile (d : Data) (f : FileData) : Type 0 where
  pub schema : HasSchema d f.fields
  pub catalog : List (Option Coding)
  pub coded : HasCatalog d catalog
  pub batches : Items
  pub at_batches : option_and_then as_array (member_of member.Batches d) ≡ Some batches
  pub tables : ReadsEach (ReadsBatch f.fields catalog) batches f.tables

-- The bytes are the text of a document of the file.
pub record Reads (bytes : List ℕ) (f : FileData) : Type 0 where
  pub text : IsUtf8 bytes
  pub document : Data
  pub parsed : read bytes ≡ Some document
  pub file : ReadsFile document f

-- ---- what can be wrong

pub data FileFault (d : Data) : JsonFaultKind → List Step → Type 0 where
  no_file_object : (kind : JsonFaultKind) (path : List Step) → Unlike as_object d kind path → FileFault d kind path
  bad_schema : (kind : JsonFaultKind) (path : List Step) → MemberFault member.Schema SchemaFault d kind path → FileFault d kind path
  bad_catalog : (kind : JsonFaultKind) (path : List Step) → CatalogFault d kind path → FileFault d kind path
  bad_batches : (kind : JsonFaultKind) (path : List Step) → MemberFault member.Batches (Unlike as_array) d kind path → FileFault d kind path
  -- a batch under the fields that are read
  bad_batch : (fields : List FieldShape) (catalog : List (Option Coding)) (ds : Items) (kind : JsonFaultKind) (path : List Step) → HasSchema d fields → HasCatalog d catalog
      → option_and_then as_array (member_of member.Batches d) ≡ Some ds → EachFault (BatchFault fields catalog) ds kind path → FileFault d kind (step.Member member.Batches ∷ path)

pub data BytesFault (bytes : List ℕ) : JsonFaultKind → List Step → Type 0 where
  -- no UTF-8, or no JSON that is nested at most 127 deep
  no_json : (IsUtf8 bytes → read bytes ≡ None) → BytesFault bytes NotJson []
  bad_file : (d : Data) (kind : JsonFaultKind) (path : List Step) → IsUtf8 bytes → read bytes ≡ Some d → FileFault d kind path → BytesFault bytes kind path

-- The fields of a file's schema. (Arrow integration testing, "JSON test data format", Schema and Field)
use Rattle.std.specs.Prelude.{◌≡◌, ℕ, List, Bool, true, false, Some, option_and_then}
use Rattle.arrays.specs.Prelude.{FieldShape, dict, field, is_deep}
use Rattle.arrays.specs.Shape.{utf8}
use Rattle.json_base.specs.Prelude.{Data, Items, ReadsEach, as_array, as_bool, as_str, member_of}
use Rattle.json_read.specs.JsonSchema.{HasType, IsFieldOf, is_childless}
use Rattle.json_read.specs.JsonEncoding.{Encoding, HasEncoding}
use Rattle.json_base.specs.declared.path.Member.TheVariants as member

-- The object of a field whose column is encoded by a dictionary: its type is that of the dictionary's values, which are texts.
pub record IsEncodedField (d : Data) (bytes : List ℕ) (b : Bool) : Type 0 where
  pub name : option_and_then as_str (member_of member.Name d) ≡ Some bytes
  pub nullable : option_and_then as_bool (member_of member.Nullable d) ≡ Some b
  pub ty : HasType d utf8
  pub childless : is_childless (member_of member.Children d) ≡ true
  pub encoded_as : Encoding
  pub encoding : HasEncoding d (Some encoded_as)

-- A field that isn't encoded has at most 8 lists in one another.
pub data ReadsField (d : Data) : FieldShape → Type 0 where
  plain_field : (f : FieldShape) → IsFieldOf d f → is_deep f ≡ false → ReadsField d f
  encoded_field : (bytes : List ℕ) (b : Bool) → IsEncodedField d bytes b → ReadsField d (field bytes b dict)

pub record ReadsSchema (d : Data) (shapes : List FieldShape) : Type 0 where
  pub fields : (ds : Items) × (option_and_then as_array (member_of member.Fields d) ≡ Some ds) × ReadsEach ReadsField ds shapes

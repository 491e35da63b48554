-- The schema of a file as a value. (Arrow integration testing, "JSON test data format", Schema and Field)
use Rattle.std.specs.Prelude.{ℕ, suc, ◌*◌, List, [], ◌∷◌, codes, Bool, false}
use Rattle.arrays.specs.Prelude.{FieldShape, IntType, Narrow, OffsetWidth, Shape, Wide, bytes_of, dict, field, int32, lists, texts}
use Rattle.arrays.specs.Shape.{int, boolean as truth}
use Rattle.json_base.specs.Prelude.{Data, Items, Members, array, boolean, item, member, no_items, no_members, object, string}
use Rattle.json_print.specs.Written.{natural}

-- An integer type.
abbrev pub int_type : IntType → Data
int_type t = object (member (codes "bitWidth") (natural (8 * bytes_of t.bits)) (member (codes "isSigned") (boolean t.signed) (member (codes "name") (string (codes "int")) no_members)))

-- A type that has nothing but a name.
abbrev pub named_type : List ℕ → Data
named_type name = object (member (codes "name") (string name) no_members)

-- The names of the types of texts and of lists, by the width of their offsets.
abbrev pub text_name : OffsetWidth → List ℕ
text_name Narrow = codes "utf8"
text_name Wide = codes "largeutf8"

abbrev pub list_name : OffsetWidth → List ℕ
list_name Narrow = codes "list"
list_name Wide = codes "largelist"

-- The type object; of a dictionary that of its texts, whose offsets have 32 bits.
abbrev pub type_data : Shape → Data
type_data (int t) = int_type t
type_data truth = named_type (codes "bool")
type_data (texts w) = named_type (text_name w)
type_data (lists w f) = named_type (list_name w)
type_data dict = named_type (text_name Narrow)

-- The name, the nullability and the type, with which each field ends.
abbrev pub named_members : List ℕ → Bool → Shape → Members
named_members name nullable ty = member (codes "name") (string name) (member (codes "nullable") (boolean nullable) (member (codes "type") (type_data ty) no_members))

-- How a field names its dictionary, whose codes are signed and of 32 bits.
abbrev pub dictionary_data : ℕ → Data
dictionary_data id = object (member (codes "id") (natural id) (member (codes "indexType") (int_type int32) (member (codes "isOrdered") (boolean false) no_members)))

-- What follows a field's children: first its dictionary, where it has one.
abbrev pub other_members : ℕ → List ℕ → Bool → Shape → Members
other_members id name nullable (int t) = named_members name nullable (int t)
other_members id name nullable truth = named_members name nullable truth
other_members id name nullable (texts w) = named_members name nullable (texts w)
other_members id name nullable (lists w f) = named_members name nullable (lists w f)
other_members id name nullable dict = member (codes "dictionary") (dictionary_data id) (named_members name nullable dict)

-- The field object of a field, whose dictionary, where it has one, is that of the id.
abbrev mutual
  pub field_data : ℕ → FieldShape → Data
  field_data id (field name nullable ty) = object (member (codes "children") (array (children_data id ty)) (other_members id name nullable ty))

  -- A list has one child, the field of its items, and other types have none.
  pub children_data : ℕ → Shape → Items
  children_data id (int t) = no_items
  children_data id truth = no_items
  children_data id (texts w) = no_items
  children_data id (lists w f) = item (field_data id f) no_items
  children_data id dict = no_items

-- The fields in order, from the place on: a field's place is its dictionary's id.
abbrev pub fields_data : ℕ → List FieldShape → Items
fields_data place [] = no_items
fields_data place (f ∷ fs) = item (field_data place f) (fields_data (suc place) fs)

-- There is no metadata.
abbrev pub schema_data : List FieldShape → Data
schema_data fields = object (member (codes "fields") (array (fields_data 0 fields)) no_members)

-- A file as a text. (Arrow integration testing, "JSON test data format"; RFC 8259 for the text)
use Rattle.std.specs.Prelude.{ℕ, List, codes, Bool, true, false}
use Rattle.std.specs.List.{list_any}
use Rattle.arrays.specs.Prelude.{FieldShape, File, Kind, kind_of_field}
use Rattle.arrays.specs.Kind.{int, boolean, texts, lists, dict}
use Rattle.json_base.specs.Prelude.{Data, Members, Table, array, compact_text, member, no_members, object, tables_of}
use Rattle.json_print.specs.BatchData.{batches_data}
use Rattle.json_print.specs.Dictionaries.{dictionaries_from}
use Rattle.json_print.specs.DictionaryData.{entries_data}
use Rattle.json_print.specs.SchemaData.{schema_data}

abbrev pub is_encoded : Kind → Bool
is_encoded (int t) = false
is_encoded boolean = false
is_encoded (texts w) = false
is_encoded (lists w k) = false
is_encoded dict = true

-- Whether some field is dictionary-encoded.
abbrev pub has_dictionary : List FieldShape → Bool
has_dictionary fields = list_any (λ f. is_encoded (kind_of_field f)) fields

abbrev pub schema_member : List FieldShape → Members
schema_member fields = member (codes "schema") (schema_data fields) no_members

-- The dictionaries, where some field is dictionary-encoded, and the schema.
abbrev pub last_members : Bool → List (List (List ℕ)) → List FieldShape → Members
last_members true dictionaries fields = member (codes "dictionaries") (array (entries_data 0 dictionaries fields)) (schema_member fields)
last_members false dictionaries fields = schema_member fields

abbrev pub file_members : List (List (List ℕ)) → List FieldShape → List Table → Members
file_members dictionaries fields tables = member (codes "batches") (array (batches_data dictionaries fields tables)) (last_members (has_dictionary fields) dictionaries fields)

-- The document of tables under fields: it depends on these alone.
abbrev pub document : List FieldShape → List Table → Data
document fields tables = object (file_members (dictionaries_from 0 fields tables) fields tables)

-- The text of a file: its members in the order of their names, no space between, and nothing behind it.
unfoldable pub text : File → List ℕ
text f = compact_text (document f.fields (tables_of f.batches))

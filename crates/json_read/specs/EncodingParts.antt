-- The encoding that a reader has found.
use Rattle.std.specs.Prelude.{◌≡◌, List, Option, Some, option_and_then}
use Rattle.json_base.specs.Prelude.{Data, Items, ReadsEach, as_array, member_of}
use Rattle.json_base.specs.declared.path.Member.TheVariants as member
use Rattle.json_read.specs.JsonEncoding as column
use Rattle.json_read.specs.declared.encoding.Encoding.{Encoding}

abbrev pub parts_of : Encoding → column.Encoding
parts_of e = record { id = e.id; index = e.index }

-- The field's column is encoded in some way.
pub record HasSomeEncoding (d : Data) : Type 0 where
  pub encoded_as : column.Encoding
  pub encoding : column.HasEncoding d (Some encoded_as)

-- The columns of a schema's fields are encoded so.
pub record AreEncoded (d : Data) (encodings : List (Option column.Encoding)) : Type 0 where
  pub fields : Items
  pub listed : option_and_then as_array (member_of member.Fields d) ≡ Some fields
  pub each : ReadsEach column.HasEncoding fields encodings

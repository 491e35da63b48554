-- How the column of a field is encoded. (Arrow integration testing, "JSON test data format", Field and DictionaryType)
use Rattle.std.specs.Prelude.{◌≡◌, ℤ, true, Option, Some, None, option_and_then}
use Rattle.arrays.specs.Prelude.{IntType, int64}
use Rattle.json_base.specs.Prelude.{Data, integer_of, is_without, member_of}
use Rattle.json_read.specs.JsonSchema.{ReadsInt}
use Rattle.json_base.specs.declared.path.Member.TheVariants as member

-- A column is indices of this type into the dictionary of this number.
pub record Encoding : Type 0 where
  pub id : ℤ
  pub index : IntType

-- The number of a dictionary.
abbrev pub id_of : Data → Option ℤ
id_of d = integer_of int64 d

-- The dictionary object of a field.
pub record IsEncoding (d : Data) (e : Encoding) : Type 0 where
  pub id : option_and_then id_of (member_of member.Id d) ≡ Some e.id
  pub object : Data
  pub at_index : member_of member.IndexType d ≡ Some object
  pub index : ReadsInt object e.index

-- The field has such an object, or none.
abbrev pub HasEncoding : Data → Option Encoding → Type 0
HasEncoding d None = is_without (member_of member.Dictionary d) ≡ true
HasEncoding d (Some e) = (object : Data) × (member_of member.Dictionary d ≡ Some object) × IsEncoding object e

-- What a field's object says without its children, as its reader has it.
use Rattle.std.specs.Prelude.{◌≡◌, ◌≢◌, string_bytes, true, Some, option_and_then}
use Rattle.arrays.specs.Prelude.{OffsetWidth, shape_of}
use Rattle.json_base.specs.Prelude.{Data, as_bool, as_str, is_without, member_of}
use Rattle.json_read.specs.JsonSchema.{type_name, lists_name, member_type, NamesLists, is_childless, ReadsShape, HasType}
use Rattle.json_base.specs.declared.path.Member.TheVariants as member
use Rattle.json_read.specs.declared.schema.Bare.{Bare}
use Rattle.json_read.specs.declared.type_object.NamedType.{NamedType}
use Rattle.json_read.specs.declared.type_object.NamedType.TheVariants.{Flat, Lists}

-- The type object is that of a type without children, or of lists of the width.
abbrev pub IsTypeRead : Data → NamedType → Type 0
IsTypeRead d (Flat t) = ReadsShape d (shape_of t) × ((w : OffsetWidth) → type_name d ≢ Some (lists_name w))
IsTypeRead d (Lists w) = type_name d ≡ Some (lists_name w)

-- The same of a field: one without children has none.
abbrev pub IsFieldType : Data → NamedType → Type 0
IsFieldType d (Flat t) = HasType d (shape_of t) × (¬ NamesLists d) × (is_childless (member_of member.Children d) ≡ true)
IsFieldType d (Lists w) = member_type d ≡ Some (lists_name w)

pub record IsBare (d : Data) (b : Bare) : Type 0 where
  pub name : option_and_then as_str (member_of member.Name d) ≡ Some (string_bytes b.name)
  pub nullable : option_and_then as_bool (member_of member.Nullable d) ≡ Some b.nullable
  pub ty : IsFieldType d b.ty
  pub plain : is_without (member_of member.Dictionary d) ≡ true

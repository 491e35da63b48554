-- The schema of a file. (Arrow integration testing, "JSON test data format", Schema and Field)
use Rattle.std.specs.Prelude.{◌≡◌, ℕ, ◌==◌, List, codes, Bool, true, Option, Some, None, is_some, option_map, option_and_then, unwrap_or}
use Rattle.arrays.specs.Prelude.{FieldShape, IntType, Narrow, OffsetWidth, Shape, Wide, dict, field, lists, texts}
use Rattle.arrays.specs.Shape.{int, boolean}
use Rattle.json_base.specs.Prelude.{Data, Items, as_array, as_bool, as_null, as_number, as_str, is_without, item, items_len, member_of, no_items, width_of}
use Rattle.json_base.specs.declared.path.Member.TheVariants as member

-- ---- types

-- The name that a type object has.
abbrev pub type_name : Data → Option (List ℕ)
type_name d = option_and_then as_str (member_of member.Name d)

-- The name of the type of texts whose offsets are so wide, and of lists. (Arrow integration testing, "JSON test data format", DataType)
abbrev pub texts_name : OffsetWidth → List ℕ
texts_name Narrow = codes "utf8"
texts_name Wide = codes "largeutf8"

abbrev pub lists_name : OffsetWidth → List ℕ
lists_name Narrow = codes "list"
lists_name Wide = codes "largelist"

-- The type object of an integer type.
pub record ReadsInt (d : Data) (t : IntType) : Type 0 where
  pub name : type_name d ≡ Some (codes "int")
  pub width : option_and_then width_of (option_and_then as_number (member_of member.BitWidth d)) ≡ Some t.bits
  pub sign : option_and_then as_bool (member_of member.IsSigned d) ≡ Some t.signed

-- The type object of a type, whatever the items of a list are. None names a dictionary: that its column is encoded, the field says.
abbrev pub ReadsShape : Data → Shape → Type 0
ReadsShape d (int t) = ReadsInt d t
ReadsShape d boolean = type_name d ≡ Some (codes "bool")
ReadsShape d (texts w) = type_name d ≡ Some (texts_name w)
ReadsShape d (lists w f) = type_name d ≡ Some (lists_name w)
ReadsShape d dict = ⊥

-- ---- fields

-- The member is absent, null or empty.
abbrev pub is_childless : Option Data → Bool
is_childless None = true
is_childless (Some d) = unwrap_or (option_map (λ ds. items_len ds == 0) (as_array d)) (is_some (as_null d))

-- The item of an array of exactly one.
abbrev pub single_of : Items → Option Data
single_of no_items = None
single_of (item d no_items) = Some d
single_of (item d (item e ds)) = None

abbrev pub only_item : Data → Option Data
only_item d = option_and_then single_of (as_array d)

-- The one child of a field.
abbrev pub only_child : Data → Option Data
only_child d = option_and_then only_item (member_of member.Children d)

-- The name of a field's type.
abbrev pub member_type : Data → Option (List ℕ)
member_type d = option_and_then type_name (member_of member.DataType d)

-- The field's type is called as lists are, of either width.
pub record NamesLists (d : Data) : Type 0 where
  pub width : OffsetWidth
  pub named : member_type d ≡ Some (lists_name width)

-- The field's type object is that of the type.
pub record HasType (d : Data) (shape : Shape) : Type 0 where
  pub object : Data
  pub at_type : member_of member.DataType d ≡ Some object
  pub reads : ReadsShape object shape

-- The object of a field that isn't encoded, its children apart.
pub record HasField (d : Data) (bytes : List ℕ) (b : Bool) (shape : Shape) : Type 0 where
  pub name : option_and_then as_str (member_of member.Name d) ≡ Some bytes
  pub nullable : option_and_then as_bool (member_of member.Nullable d) ≡ Some b
  pub ty : HasType d shape
  pub plain : is_without (member_of member.Dictionary d) ≡ true

-- The object of such a field: a list's has one child, the field of its items, and others have none.
abbrev mutual
  pub IsFieldOf : Data → FieldShape → Type 0
  IsFieldOf d (field bytes b shape) = HasField d bytes b shape × HasChildren d shape

  pub HasChildren : Data → Shape → Type 0
  HasChildren d (int t) = is_childless (member_of member.Children d) ≡ true
  HasChildren d boolean = is_childless (member_of member.Children d) ≡ true
  HasChildren d (texts w) = is_childless (member_of member.Children d) ≡ true
  HasChildren d (lists w f) = (child : Data) × (only_child d ≡ Some child) × IsFieldOf child f
  HasChildren d dict = ⊥

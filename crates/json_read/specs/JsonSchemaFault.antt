-- What can be wrong with a schema.
use Rattle.std.specs.Prelude.{◌≡◌, ◌≢◌, ℕ, suc, List, [], ◌∷◌, codes, false, Some, None, option_and_then}
use Rattle.arrays.specs.Prelude.{OffsetWidth}
use Rattle.json_base.specs.Prelude.{Data, IsObject, MemberFault, Num, Unlike, as_bool, as_null, as_number, as_object, as_str, member_of, width_of}
use Rattle.json_read.specs.JsonSchema.{type_name, texts_name, lists_name, member_type, NamesLists, is_childless, only_item, only_child}
use Rattle.json_base.specs.declared.path.Member.TheVariants as member
use Rattle.json_base.specs.declared.path.Step.{Step}
use Rattle.json_base.specs.declared.path.Step.TheVariants as step
use Rattle.json_base.specs.declared.fault.JsonFaultKind.{JsonFaultKind}
use Rattle.json_base.specs.declared.fault.JsonFaultKind.TheVariants.{WrongMember, UnsupportedType}

pub data TypeFault (d : Data) : JsonFaultKind → List Step → Type 0 where
  no_type_object : (kind : JsonFaultKind) (path : List Step) → Unlike as_object d kind path → TypeFault d kind path
  bad_type_name : (kind : JsonFaultKind) (path : List Step) → MemberFault member.Name (Unlike as_str) d kind path → TypeFault d kind path
  -- integers, truth values, texts and lists are read
  other_type : (bytes : List ℕ) → type_name d ≡ Some bytes → bytes ≢ codes "int" → bytes ≢ codes "bool" → ((w : OffsetWidth) → bytes ≢ texts_name w) → ((w : OffsetWidth) → bytes ≢ lists_name w)
      → TypeFault d UnsupportedType []
  bad_width : (kind : JsonFaultKind) (path : List Step) → type_name d ≡ Some (codes "int") → MemberFault member.BitWidth (Unlike as_number) d kind path → TypeFault d kind path
  other_width : (width : Num) → type_name d ≡ Some (codes "int") → option_and_then as_number (member_of member.BitWidth d) ≡ Some width → width_of width ≡ None
      → TypeFault d UnsupportedType []
  bad_sign : (kind : JsonFaultKind) (path : List Step) → type_name d ≡ Some (codes "int") → MemberFault member.IsSigned (Unlike as_bool) d kind path → TypeFault d kind path

-- Of the type object of a dictionary's indices.
pub data IndexFault (d : Data) : JsonFaultKind → List Step → Type 0 where
  bad_index_type : (kind : JsonFaultKind) (path : List Step) → TypeFault d kind path → IndexFault d kind path
  -- indices are integers
  other_index : (bytes : List ℕ) → type_name d ≡ Some bytes → bytes ≢ codes "int" → IndexFault d UnsupportedType []

-- The names of the types without children.
pub data NamesChildless : List ℕ → Type 0 where
  int_name : NamesChildless (codes "int")
  bool_name : NamesChildless (codes "bool")
  texts_called : (w : OffsetWidth) → NamesChildless (texts_name w)

-- Of a field within so many lists, whose column isn't encoded.
pub data FieldFault : ℕ → Data → JsonFaultKind → List Step → Type 0 where
  no_field_object : (within : ℕ) (d : Data) (kind : JsonFaultKind) (path : List Step) → Unlike as_object d kind path → FieldFault within d kind path
  bad_field_name : (within : ℕ) (d : Data) (kind : JsonFaultKind) (path : List Step) → MemberFault member.Name (Unlike as_str) d kind path → FieldFault within d kind path
  bad_nullable : (within : ℕ) (d : Data) (kind : JsonFaultKind) (path : List Step) → MemberFault member.Nullable (Unlike as_bool) d kind path → FieldFault within d kind path
  bad_type : (within : ℕ) (d : Data) (kind : JsonFaultKind) (path : List Step) → MemberFault member.DataType TypeFault d kind path → FieldFault within d kind path
  no_dictionary_object : (within : ℕ) (d e : Data) (kind : JsonFaultKind) (path : List Step) → member_of member.Dictionary d ≡ Some e → as_null e ≡ None → Unlike as_object e kind path
      → FieldFault within d kind (step.Member member.Dictionary ∷ path)
  -- a dictionary inside a list
  encoded_item : (within : ℕ) (d e : Data) → member_of member.Dictionary d ≡ Some e → IsObject e → FieldFault (suc within) d UnsupportedType []
  -- only lists have children
  has_children : (within : ℕ) (d : Data) (bytes : List ℕ) → member_type d ≡ Some bytes → NamesChildless bytes → is_childless (member_of member.Children d) ≡ false
      → FieldFault within d WrongMember (step.Member member.Children ∷ [])
  no_child : (within : ℕ) (d : Data) (kind : JsonFaultKind) (path : List Step) → NamesLists d → MemberFault member.Children (Unlike only_item) d kind path
      → FieldFault within d kind path
  -- a ninth list
  ninth_list : (d : Data) → NamesLists d → FieldFault 8 d UnsupportedType []
  bad_child : (within : ℕ) (d child : Data) (kind : JsonFaultKind) (path : List Step) → NamesLists d → only_child d ≡ Some child → FieldFault (suc within) child kind path
      → FieldFault within d kind (step.Member member.Children ∷ step.Item 0 ∷ path)

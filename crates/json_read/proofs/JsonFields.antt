-- Why a fault of a schema's fields stands.
use Rattle.std.proofs.Common.{◌≡◌, ◌≢◌, ◌∙◌, ℕ, ◌+◌, ◌≤◌, nat_lt, List, [], ◌∷◌, ◌++◌, false, Some, option_and_then, codes, string_bytes, sym, ap, subst, arith}
use Rattle.std.proofs.lemmas.Bool.Decides.{nat_tests}
use Rattle.arrays.specs.Prelude.{DataType, Dict, Field, FieldShape, Narrow, Shape, depth, field_of, field_step, fields_of, fold_out-DataType, fold_out-Field, kind_of_field, map-DataType, out-Field, outs-Dict, shape_of, shape_step}
use Rattle.std.proofs.lemmas.List.{map-append}
use Rattle.arrays.specs.Shape as shape
use Rattle.json_base.specs.Prelude.{Data, EachFault, IsFault, IsObject, IsUnder, Items, MemberFault, Missing, Tells, Unlike, as_array, as_bool, as_object, as_str, member_of}
use Rattle.json_base.specs.declared.path.Member.TheVariants as member
use Rattle.json_base.specs.declared.path.Step.TheVariants as step
use Rattle.json_base.specs.declared.fault.JsonFault.{JsonFault}
use Rattle.json_base.specs.declared.fault.JsonFaultKind.TheVariants.{UnsupportedType, WrongMember}
use Rattle.json_read.specs.Prelude.{EncodedFault, FieldFault, HasSomeEncoding, HasType, IsEncodedField, IsFieldOf, ReadsField, SchemaFault, TopFault, TypeFault, bad_encoded, bad_field, bad_fields, bad_top, encoded_field, id_of, is_childless, member_type, no_schema_object, other_values, plain_field, texts_called, type_name}
use Rattle.json_base.proofs.JsonTells.{tells_at, tells_as, tells_under, tells_wants, tells_item_at}
use Rattle.json_read.proofs.JsonFaults.{field_object, field_name_faults, field_nullable_faults, field_no_type, field_type_faults, field_children_named}
use Rattle.json_base.proofs.MemberLaws.{has_object}

pub top_plain : (d : Data) (f : JsonFault) → Tells (FieldFault 0 d) f → Tells (TopFault d) f
top_plain d f t = tells_as (FieldFault 0 d) (TopFault d) f (λ k p h. bad_top k p h) t

pub top_encoding : (d : Data) (f : JsonFault) → Tells (EncodedFault d) f → Tells (TopFault d) f
top_encoding d f t = tells_as (EncodedFault d) (TopFault d) f (λ k p h. bad_encoded k p h) t

pub top_object : (d : Data) (f : JsonFault) → Tells (Unlike as_object d) f → Tells (TopFault d) f
top_object d f t = top_plain d f (field_object 0 d f t)

pub top_name : (d : Data) (f : JsonFault) → Tells (MemberFault member.Name (Unlike as_str) d) f → Tells (TopFault d) f
top_name d f t = top_plain d f (field_name_faults 0 d f t)

pub top_nullable : (d : Data) (f : JsonFault) → Tells (MemberFault member.Nullable (Unlike as_bool) d) f → Tells (TopFault d) f
top_nullable d f t = top_plain d f (field_nullable_faults 0 d f t)

pub top_values : (d e : Data) (bytes : List ℕ) (f : JsonFault) → member_of member.Dictionary d ≡ Some e → IsObject e → member_type d ≡ Some bytes → bytes ≢ codes "utf8"
    → IsFault UnsupportedType (step.Member member.DataType ∷ []) f → Tells (TopFault d) f
top_values d e bytes f at object named other is = tells_at (TopFault d) UnsupportedType (step.Member member.DataType ∷ []) f (other_values e bytes at object named other) is

pub top_no_type : (d : Data) (f : JsonFault) → Tells (Missing member.DataType d) f → Tells (TopFault d) f
top_no_type d f t = top_plain d f (field_no_type 0 d f t)

pub top_type : (d e : Data) (f g : JsonFault) → Tells (TypeFault e) f → member_of member.DataType d ≡ Some e → IsUnder (step.Member member.DataType) f g → Tells (TopFault d) g
top_type d e f g t at up = top_plain d g (field_type_faults 0 d e f g t at up)

-- a type that isn't that of texts
pub top_other : (d e : Data) (bytes : List ℕ) (f : JsonFault) → HasSomeEncoding d → member_of member.DataType d ≡ Some e → type_name e ≡ Some bytes → bytes ≢ codes "utf8"
    → IsFault UnsupportedType (step.Member member.DataType ∷ []) f → Tells (TopFault d) f
top_other d e bytes f some at named other is =
    let object = some.encoding in
    top_values d object.0 bytes f object.1 (has_object id_of member.Id object.0 some.encoded_as.id object.2.id) (ap (option_and_then type_name) at ∙ named) other is

-- only lists have children
pub top_children : (d : Data) (f : JsonFault) → HasType d shape.utf8 → is_childless (member_of member.Children d) ≡ false → IsFault WrongMember (step.Member member.Children ∷ []) f
    → Tells (TopFault d) f
top_children d f ty some is =
    top_plain d f (field_children_named 0 d (codes "utf8") f (ap (option_and_then type_name) ty.at_type ∙ ty.reads) (texts_called Narrow) some is)

-- ---- a field that is read

pub fields_of-push : (fs : List Field) (f : Field) → fields_of (fs ++ f ∷ []) ≡ fields_of fs ++ field_of f ∷ []
fields_of-push fs f = map-append field_of fs (f ∷ [])

shape_of-Dict : shape_of Dict ≡ shape.dict
shape_of-Dict = fold_out-DataType Shape FieldShape shape_step field_step Dict ∙ ap (λ o. shape_step (map-DataType DataType Field Shape FieldShape shape_of field_of o)) outs-Dict

field_of-Dict : (f : Field) → (out-Field f).ty ≡ Dict → field_of f ≡ shape.field (string_bytes (out-Field f).name) (out-Field f).nullable shape.dict
field_of-Dict f is =
    fold_out-Field Shape FieldShape shape_step field_step f ∙ ap (shape.field (string_bytes (out-Field f).name) (out-Field f).nullable) (ap shape_of is ∙ shape_of-Dict)

pub top_read : (d : Data) (f : Field) → (out-Field f).ty ≡ Dict → IsEncodedField d (string_bytes (out-Field f).name) (out-Field f).nullable → ReadsField d (field_of f)
top_read d f is h = subst (ReadsField d) (sym (field_of-Dict f is)) (encoded_field (string_bytes (out-Field f).name) (out-Field f).nullable h)

few_lists : (n : ℕ) → 0 + n ≤ 8 → nat_lt 8 n ≡ false
few_lists n h = grind (arith, nat_tests)

pub within_read : (d : Data) (f : Field) → IsFieldOf d (field_of f) → 0 + depth (kind_of_field (field_of f)) ≤ 8 → ReadsField d (field_of f)
within_read d f object shallow = plain_field (field_of f) object (few_lists (depth (kind_of_field (field_of f))) shallow)

pub ruleset top_faults = (top_plain, top_encoding, top_object, top_name, top_nullable, top_no_type, top_type, top_other, top_children, tells_wants)

pub schema_object : (d : Data) (f : JsonFault) → Tells (Unlike as_object d) f → Tells (SchemaFault d) f
schema_object d f t = tells_as (Unlike as_object d) (SchemaFault d) f (λ k p h. no_schema_object k p h) t

pub schema_fields : (d : Data) (f : JsonFault) → Tells (MemberFault member.Fields (Unlike as_array) d) f → Tells (SchemaFault d) f
schema_fields d f t = tells_as (MemberFault member.Fields (Unlike as_array) d) (SchemaFault d) f (λ k p h. bad_fields k p h) t

pub schema_field : (d : Data) (ds : Items) (f g : JsonFault) → Tells (EachFault TopFault ds) f → option_and_then as_array (member_of member.Fields d) ≡ Some ds
    → IsUnder (step.Member member.Fields) f g → Tells (SchemaFault d) g
schema_field d ds f g t at up = tells_under (EachFault TopFault ds) (SchemaFault d) (step.Member member.Fields) f g (λ k p h. bad_field ds k p at h) t up

pub ruleset schema_faults = (tells_item_at, schema_object, schema_fields, schema_field, tells_wants)

-- What can be wrong with the fields of a schema.
use Rattle.std.specs.Prelude.{◌≡◌, ◌≢◌, ℕ, List, [], ◌∷◌, codes, Some, option_and_then}
use Rattle.json_base.specs.Prelude.{Data, EachFault, IsObject, Items, MemberFault, Unlike, as_array, as_object, member_of}
use Rattle.json_read.specs.JsonSchema.{member_type}
use Rattle.json_read.specs.JsonSchemaFault.{FieldFault}
use Rattle.json_read.specs.JsonEncodingFault.{EncodedFault}
use Rattle.json_base.specs.declared.path.Member.TheVariants as member
use Rattle.json_base.specs.declared.path.Step.{Step}
use Rattle.json_base.specs.declared.path.Step.TheVariants as step
use Rattle.json_base.specs.declared.fault.JsonFaultKind.{JsonFaultKind}
use Rattle.json_base.specs.declared.fault.JsonFaultKind.TheVariants.{UnsupportedType}

-- Of a field of a schema, within no list.
pub data TopFault (d : Data) : JsonFaultKind → List Step → Type 0 where
  bad_top : (kind : JsonFaultKind) (path : List Step) → FieldFault 0 d kind path → TopFault d kind path
  bad_encoded : (kind : JsonFaultKind) (path : List Step) → EncodedFault d kind path → TopFault d kind path
  -- a dictionary of other values than texts
  other_values : (e : Data) (bytes : List ℕ) → member_of member.Dictionary d ≡ Some e → IsObject e → member_type d ≡ Some bytes → bytes ≢ codes "utf8"
      → TopFault d UnsupportedType (step.Member member.DataType ∷ [])

pub data SchemaFault (d : Data) : JsonFaultKind → List Step → Type 0 where
  no_schema_object : (kind : JsonFaultKind) (path : List Step) → Unlike as_object d kind path → SchemaFault d kind path
  bad_fields : (kind : JsonFaultKind) (path : List Step) → MemberFault member.Fields (Unlike as_array) d kind path → SchemaFault d kind path
  bad_field : (ds : Items) (kind : JsonFaultKind) (path : List Step) → option_and_then as_array (member_of member.Fields d) ≡ Some ds → EachFault TopFault ds kind path
      → SchemaFault d kind (step.Member member.Fields ∷ path)

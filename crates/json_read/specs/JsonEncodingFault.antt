-- What can be wrong with the encoding of a field.
use Rattle.std.specs.Prelude.{◌≡◌, List, ◌∷◌, Some, None}
use Rattle.json_base.specs.Prelude.{Data, IsObject, MemberFault, Unlike, as_null, as_object, member_of}
use Rattle.json_read.specs.JsonEncoding.{id_of}
use Rattle.json_read.specs.JsonSchemaFault.{IndexFault}
use Rattle.json_base.specs.declared.path.Member.TheVariants as member
use Rattle.json_base.specs.declared.path.Step.{Step}
use Rattle.json_base.specs.declared.path.Step.TheVariants as step
use Rattle.json_base.specs.declared.fault.JsonFaultKind.{JsonFaultKind}

-- Of a dictionary object.
pub data EncodingFault (d : Data) : JsonFaultKind → List Step → Type 0 where
  bad_id : (kind : JsonFaultKind) (path : List Step) → MemberFault member.Id (Unlike id_of) d kind path → EncodingFault d kind path
  bad_index : (kind : JsonFaultKind) (path : List Step) → MemberFault member.IndexType IndexFault d kind path → EncodingFault d kind path

-- Of a field whose dictionary is neither absent nor null.
pub data EncodedFault (d : Data) : JsonFaultKind → List Step → Type 0 where
  no_encoding_object : (e : Data) (kind : JsonFaultKind) (path : List Step) → member_of member.Dictionary d ≡ Some e → as_null e ≡ None → Unlike as_object e kind path
      → EncodedFault d kind (step.Member member.Dictionary ∷ path)
  bad_encoding : (e : Data) (kind : JsonFaultKind) (path : List Step) → member_of member.Dictionary d ≡ Some e → IsObject e → EncodingFault e kind path
      → EncodedFault d kind (step.Member member.Dictionary ∷ path)

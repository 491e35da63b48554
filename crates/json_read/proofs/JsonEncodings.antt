-- Why a fault of an encoding stands.
use Rattle.std.proofs.Common.{◌≡◌, ◌∷◌, Some, None}
use Rattle.json_base.specs.Prelude.{Data, IsObject, IsUnder, MemberFault, Missing, Tells, Unlike, absent, as_null, as_object, member_of, wrong}
use Rattle.json_base.specs.declared.path.Member.TheVariants as member
use Rattle.json_base.specs.declared.path.Step.TheVariants as step
use Rattle.json_base.specs.declared.fault.JsonFault.{JsonFault}
use Rattle.json_read.specs.Prelude.{EncodedFault, EncodingFault, IndexFault, bad_encoding, bad_id, bad_index, id_of, no_encoding_object}
use Rattle.json_base.proofs.JsonTells.{tells_as, tells_under}

pub encoding_id : (d : Data) (f : JsonFault) → Tells (MemberFault member.Id (Unlike id_of) d) f → Tells (EncodingFault d) f
encoding_id d f t = tells_as (MemberFault member.Id (Unlike id_of) d) (EncodingFault d) f (λ k p h. bad_id k p h) t

pub encoding_no_index : (d : Data) (f : JsonFault) → Tells (Missing member.IndexType d) f → Tells (EncodingFault d) f
encoding_no_index d f t = tells_as (Missing member.IndexType d) (EncodingFault d) f (λ k p h. bad_index k p (absent k p h)) t

pub encoding_index : (d e : Data) (f g : JsonFault) → Tells (IndexFault e) f → member_of member.IndexType d ≡ Some e → IsUnder (step.Member member.IndexType) f g → Tells (EncodingFault d) g
encoding_index d e f g t at up =
    tells_under (IndexFault e) (EncodingFault d) (step.Member member.IndexType) f g (λ k p h. bad_index k (step.Member member.IndexType ∷ p) (wrong e k p at h)) t up

pub ruleset encoding_faults = (encoding_id, encoding_no_index, encoding_index)

pub encoded_object : (d e : Data) (f g : JsonFault) → Tells (Unlike as_object e) f → member_of member.Dictionary d ≡ Some e → as_null e ≡ None → IsUnder (step.Member member.Dictionary) f g
    → Tells (EncodedFault d) g
encoded_object d e f g t at there up =
    tells_under (Unlike as_object e) (EncodedFault d) (step.Member member.Dictionary) f g (λ k p h. no_encoding_object e k p at there h) t up

pub encoded_encoding : (d e : Data) (f g : JsonFault) → Tells (EncodingFault e) f → member_of member.Dictionary d ≡ Some e → IsObject e → IsUnder (step.Member member.Dictionary) f g → Tells (EncodedFault d) g
encoded_encoding d e f g t at object up = tells_under (EncodingFault e) (EncodedFault d) (step.Member member.Dictionary) f g (λ k p h. bad_encoding e k p at object h) t up

pub ruleset encoded_faults = (encoded_object, encoded_encoding)

-- Schemas are plain values.
use Rattle.std.proofs.Common.{ℕ, suc, ◌+◌, ◌*◌, ◌<◌, ◌≤◌, ◌^◌, List, [], ◌∷◌, length, Bool, refl, arith, lit<}
use Rattle.arrays.specs.Prelude.{FieldShape, IntType, Shape, W16, W32, W64, W8, Width, bytes_of, dict, field, int32, lists, texts}
use Rattle.arrays.specs.Shape.{int, boolean}
use Rattle.json_print.specs.Prelude.{ArePlain, ArePlainMembers, IsPlain, dictionary_data, field_data, fields_data, int_type, named_members, schema_data, type_data}

width_small : (w : Width) → 8 * bytes_of w < 2 ^ 64
width_small W8 = lit< tt
width_small W16 = lit< tt
width_small W32 = lit< tt
width_small W64 = lit< tt

int_type_plain : (t : IntType) → IsPlain (int_type t)
int_type_plain t = (width_small t.bits, (refl, (refl, tt)), (tt, (refl, tt), (tt, tt, tt)))

type_plain : (ty : Shape) → IsPlain (type_data ty)
type_plain (int t) = int_type_plain t
type_plain boolean = (tt, tt, tt)
type_plain (texts w) = (tt, tt, tt)
type_plain (lists w f) = (tt, tt, tt)
type_plain dict = (tt, tt, tt)

named_plain : (name : List ℕ) (nullable : Bool) (ty : Shape) → ArePlainMembers (named_members name nullable ty)
named_plain name nullable ty = (tt, (refl, (refl, tt)), (tt, (refl, tt), (type_plain ty, tt, tt)))

dictionary_plain : (id : ℕ) → id < 2 ^ 64 → IsPlain (dictionary_data id)
dictionary_plain id small = (small, (refl, (refl, tt)), (int_type_plain int32, (refl, tt), (tt, tt, tt)))

mutual
  field_plain : (id : ℕ) → id < 2 ^ 64 → (f : FieldShape) → IsPlain (field_data id f)
  field_plain id small (field name nullable (int t)) = (tt, (refl, (refl, (refl, tt))), named_plain name nullable (int t))
  field_plain id small (field name nullable boolean) = (tt, (refl, (refl, (refl, tt))), named_plain name nullable boolean)
  field_plain id small (field name nullable (texts w)) = (tt, (refl, (refl, (refl, tt))), named_plain name nullable (texts w))
  field_plain id small (field name nullable (lists w f)) = ((field_plain id small f, tt), (refl, (refl, (refl, tt))), named_plain name nullable (lists w f))
  field_plain id small (field name nullable dict) =
      (tt, (refl, (refl, (refl, (refl, tt)))), (dictionary_plain id small, (refl, (refl, (refl, tt))), named_plain name nullable dict))

fields_plain : (place : ℕ) (fields : List FieldShape) → place + length fields ≤ 2 ^ 64 → ArePlain (fields_data place fields)
fields_plain place [] h = tt
fields_plain place (f ∷ fields) h = (field_plain place (omega (arith, h)) f, fields_plain (suc place) fields (omega (arith, h)))

pub schema_plain : (fields : List FieldShape) → length fields < 2 ^ 64 → IsPlain (schema_data fields)
schema_plain fields few = (fields_plain 0 fields (omega (arith, few)), tt, tt)

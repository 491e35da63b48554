-- A schema reads back as its fields.
use Rattle.std.proofs.Common.{◌≡◌, ℕ, suc, ◌+◌, ◌*◌, ◌<◌, ◌≤◌, ◌^◌, pos, List, [], ◌∷◌, length, Bool, false, Some, refl, ap, arith}
use Rattle.std.specs.List.{AllByRecursion}
use Rattle.arrays.specs.Prelude.{FieldShape, IntType, Narrow, OffsetWidth, W16, W32, W64, W8, Wide, Width, bytes_of, dict, ends_in_dict, field, holds_dict, int32, is_deep, kind_of_field, lists, texts}
use Rattle.arrays.specs.Shape.{int, boolean}
use Rattle.json_base.specs.Prelude.{unsigned, width_of}
use Rattle.json_read.specs.Prelude.{HasField, IsEncoding, IsFieldOf, ReadsField, ReadsInt, ReadsSchema, encoded_field, lists_name, plain_field, texts_name}
use Rattle.json_print.specs.SchemaData.{dictionary_data, field_data, fields_data, int_type, list_name, schema_data, text_name, type_data}
use Rattle.json_laws.specs.IsFile.{IsField}
use Rattle.json_laws.proofs.ReadEach.{AreRead, each_read}
use Rattle.json_laws.proofs.ReadNumbers.{id_read}

-- ---- types

width_read : (w : Width) → width_of (unsigned (8 * bytes_of w)) ≡ Some w
width_read W8 = refl
width_read W16 = refl
width_read W32 = refl
width_read W64 = refl

int_read : (t : IntType) → ReadsInt (int_type t) t
int_read t = record { name = refl; width = width_read t.bits; sign = refl }

texts_named : (w : OffsetWidth) → text_name w ≡ texts_name w
texts_named Narrow = refl
texts_named Wide = refl

lists_named : (w : OffsetWidth) → list_name w ≡ lists_name w
lists_named Narrow = refl
lists_named Wide = refl

-- ---- fields that aren't encoded

int_field : (id : ℕ) (name : List ℕ) (nullable : Bool) (t : IntType) → HasField (field_data id (field name nullable (int t))) name nullable (int t)
int_field id name nullable t = record { name = refl; nullable = refl; ty = record { object = type_data (int t); at_type = refl; reads = int_read t }; plain = refl }

truth_field : (id : ℕ) (name : List ℕ) (nullable : Bool) → HasField (field_data id (field name nullable boolean)) name nullable boolean
truth_field id name nullable = record { name = refl; nullable = refl; ty = record { object = type_data boolean; at_type = refl; reads = refl }; plain = refl }

text_field : (id : ℕ) (name : List ℕ) (nullable : Bool) (w : OffsetWidth) → HasField (field_data id (field name nullable (texts w))) name nullable (texts w)
text_field id name nullable w =
    record { name = refl; nullable = refl; ty = record { object = type_data (texts w); at_type = refl; reads = ap (λ n. Some n) (texts_named w) }; plain = refl }

list_field : (id : ℕ) (name : List ℕ) (nullable : Bool) (w : OffsetWidth) (f : FieldShape) → HasField (field_data id (field name nullable (lists w f))) name nullable (lists w f)
list_field id name nullable w f =
    record { name = refl; nullable = refl; ty = record { object = type_data (lists w f); at_type = refl; reads = ap (λ n. Some n) (lists_named w) }; plain = refl }

plain_read : (id : ℕ) (f : FieldShape) → ends_in_dict (kind_of_field f) ≡ false → IsFieldOf (field_data id f) f
plain_read id (field name nullable (int t)) plain = (int_field id name nullable t, refl)
plain_read id (field name nullable boolean) plain = (truth_field id name nullable, refl)
plain_read id (field name nullable (texts w)) plain = (text_field id name nullable w, refl)
plain_read id (field name nullable (lists w f)) plain = (list_field id name nullable w f, (field_data id f, refl, plain_read id f plain))
plain_read id (field name nullable dict) plain = absurd cc

-- ---- all fields

-- How a field names its dictionary.
pub encoding_read : (id : ℕ) → id < 2 ^ 63 → IsEncoding (dictionary_data id) (record { id = pos id; index = int32 })
encoding_read id small = record { id = id_read id small; object = int_type int32; at_index = refl; index = int_read int32 }

field_read : (id : ℕ) → id < 2 ^ 63 → (f : FieldShape) → is_deep f ≡ false → holds_dict f ≡ false → ReadsField (field_data id f) f
field_read id small (field name nullable (int t)) shallow plain = plain_field (field name nullable (int t)) (plain_read id (field name nullable (int t)) refl) shallow
field_read id small (field name nullable boolean) shallow plain = plain_field (field name nullable boolean) (plain_read id (field name nullable boolean) refl) shallow
field_read id small (field name nullable (texts w)) shallow plain = plain_field (field name nullable (texts w)) (plain_read id (field name nullable (texts w)) refl) shallow
field_read id small (field name nullable (lists w f)) shallow plain = plain_field (field name nullable (lists w f)) (plain_read id (field name nullable (lists w f)) plain) shallow
field_read id small (field name nullable dict) shallow plain = encoded_field name nullable record {
  name = refl;
  nullable = refl;
  ty = record { object = type_data dict; at_type = refl; reads = refl };
  childless = refl;
  encoded_as = record { id = pos id; index = int32 };
  encoding = (dictionary_data id, refl, encoding_read id small);
}

fields_read : (place : ℕ) (fields : List FieldShape) → place + length fields ≤ 2 ^ 63 → AllByRecursion IsField fields → AreRead ReadsField (fields_data place fields) fields
fields_read place [] few h = tt
fields_read place (f ∷ fields) few h = (field_read place (omega (arith, few)) f h.0.shallow h.0.plain, fields_read (suc place) fields (omega (arith, few)) h.1)

pub schema_read : (fields : List FieldShape) → length fields < 2 ^ 63 → AllByRecursion IsField fields → ReadsSchema (schema_data fields) fields
schema_read fields few h = record { fields = (fields_data 0 fields, refl, each_read ReadsField (fields_data 0 fields) fields (fields_read 0 fields (omega (arith, few)) h)) }

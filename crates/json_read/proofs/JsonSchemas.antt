-- A schema that is read is lawful.
use Rattle.std.proofs.Common.{◌≡◌, ◌∙◌, ℕ, suc, ◌+◌, Bool, false, cond, not, nat_lt, List, [], ◌∷◌, length, Some, None, position, refl, ap, arith}
use Rattle.std.specs.List.{slice_get, position_or_len}
use Rattle.std.proofs.lemmas.Bool.Decides.{nat_tests}
use Rattle.std.proofs.lemmas.Option.{slice_get_within}
use Rattle.arrays.specs.Prelude.{FieldShape, Shape, dict, ends_in_dict, field, holds_dict, is_deep, kind_of_field, kind_of_shape, lists, schema_fault, texts}
use Rattle.arrays.specs.Shape.{int, boolean}
use Rattle.json_base.specs.Prelude.{Data, Items, ReadsEach}
use Rattle.json_base.proofs.JsonItems.{get_item_some}
use Rattle.json_read.specs.Prelude.{HasChildren, IsFieldOf, ReadsField, encoded_field, plain_field}

-- what is read is no dictionary, nor a list of such
mutual
  no_dict : (d : Data) (f : FieldShape) → IsFieldOf d f → ends_in_dict (kind_of_field f) ≡ false
  no_dict d (field bytes b s) h = no_dict_shape d s h.1

  no_dict_shape : (d : Data) (s : Shape) → HasChildren d s → ends_in_dict (kind_of_shape s) ≡ false
  no_dict_shape d (int t) h = refl
  no_dict_shape d boolean h = refl
  no_dict_shape d (texts w) h = refl
  no_dict_shape d (lists w f) h = no_dict h.0 f h.2
  no_dict_shape d dict h = absurd h

holds_none : (d : Data) (f : FieldShape) → IsFieldOf d f → holds_dict f ≡ false
holds_none d (field bytes b (int t)) h = refl
holds_none d (field bytes b boolean) h = refl
holds_none d (field bytes b (texts w)) h = refl
holds_none d (field bytes b (lists w f)) h = no_dict h.1.0 f h.1.2
holds_none d (field bytes b dict) h = refl

field_flat : (d : Data) (f : FieldShape) → ReadsField d f → (is_deep f ≡ false) × (holds_dict f ≡ false)
field_flat d f (plain_field g object shallow) = (shallow, holds_none d f object)
field_flat d f (encoded_field bytes b h) = (refl, refl)

flat_at : (ds : Items) (fields : List FieldShape) (i : ℕ) (f : FieldShape) → ReadsEach ReadsField ds fields → slice_get fields i ≡ Some f → (is_deep f ≡ false) × (holds_dict f ≡ false)
flat_at ds fields i f h at =
    let found = get_item_some ds i (omega (arith, slice_get_within fields i f at, h.len)) in
    field_flat found.0 f (h.each i found.0 f found.1 at)

position_or_len-none : {A : Type 0} (p : A → Bool) (xs : List A) → ((i : ℕ) (x : A) → slice_get xs i ≡ Some x → p x ≡ false) → position_or_len p xs ≡ length xs
position_or_len-none p [] h = refl
position_or_len-none p (x ∷ xs) h =
    ap (λ b. cond (not b) (1 + position_or_len p xs) 0) (h 0 x refl) ∙ (ap (λ n. 1 + n) (position_or_len-none p xs (λ i y at. h (suc i) y at)) ∙ omega arith)

pub position-none : {A : Type 0} (p : A → Bool) (xs : List A) → ((i : ℕ) (x : A) → slice_get xs i ≡ Some x → p x ≡ false) → position p xs ≡ None
position-none p xs h =
    let all : position_or_len p xs ≡ length xs = position_or_len-none p xs h in
    let past : nat_lt (position_or_len p xs) (length xs) ≡ false = grind (arith, nat_tests) in
    ap (λ b. cond b (Some (position_or_len p xs)) None) past

pub schema_fault-read : (ds : Items) (fields : List FieldShape) → ReadsEach ReadsField ds fields → schema_fault fields ≡ None
schema_fault-read ds fields h =
    let deep = position-none is_deep fields (λ i f at. (flat_at ds fields i f h at).0) in
    let wrapper = position-none holds_dict fields (λ i f at. (flat_at ds fields i f h at).1) in
    rw (deep, wrapper) refl

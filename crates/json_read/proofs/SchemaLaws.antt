-- Where a fault of a schema stands, no schema is read, and two readings of one schema are one.
use Rattle.std.proofs.Common.{◌≡◌, ◌≢◌, ◌∙◌, ℕ, suc, ◌+◌, ◌≤◌, Bool, true, false, nat_lt, List, Option, Some, None, option_and_then, codes, refl, ap, subst, arith}
use Rattle.std.proofs.lemmas.Bool.Decides.{nat_tests}
use Rattle.arrays.specs.Prelude.{FieldShape, IntType, Narrow, OffsetWidth, Shape, depth, dict, field, kind_of_field, lists, texts}
use Rattle.arrays.specs.Shape.{int, boolean}
use Rattle.json_base.specs.Prelude.{Data, EachFault, IsObject, MemberFault, ReadsEach, Unlike, as_array, as_bool, as_null, as_number, as_object, as_str, is_without, member_of, width_of}
use Rattle.json_base.specs.declared.path.Member.TheVariants as member
use Rattle.json_base.specs.declared.path.Step.{Step}
use Rattle.json_base.specs.declared.fault.JsonFaultKind.{JsonFaultKind}
use Rattle.json_read.specs.Prelude.{EncodedFault, Encoding, EncodingFault, FieldFault, HasChildren, HasEncoding, HasField, HasSchema, HasType, IndexFault, IsEncodedField, IsEncoding, IsFieldOf, NamesChildless, NamesLists, ReadsField, ReadsInt, ReadsSchema, ReadsShape, SchemaFault, TopFault, TypeFault, bad_encoded, bad_encoding, bad_field, bad_field_name, bad_fields, bad_id, bad_index, bad_index_type, bad_nullable, bad_sign, bad_top, bad_type, bad_type_name, bad_width, bool_name, encoded_field, encoded_item, has_children, id_of, int_name, is_childless, lists_name, member_type, ninth_list, no_child, no_dictionary_object, no_encoding_object, no_field_object, no_schema_object, no_type_object, only_child, only_item, other_index, other_type, other_values, other_width, plain_field, texts_called, texts_name, type_name}
use Rattle.json_base.proofs.MemberLaws.{has_object, no_null, inner, no_object, not_unlike, no_member, under_law, each_law, same_each}
use Rattle.json_read.proofs.JsonNames.{mark, texts_mark, lists_mark, other_name, same_texts_width, same_lists_width, not_lists}
use Rattle.json_read.specs.JsonSchemaFault.{bad_child}

-- ---- schemas

type_law : (d : Data) (t : IntType) (k : JsonFaultKind) (p : List Step) → ReadsInt d t → TypeFault d k p → ⊥
type_law d t k p h (no_type_object k' p' u) = no_object as_str member.Name d _ h.name (not_unlike as_object d _ _ u)
type_law d t k p h (bad_type_name k' p' f) = no_member as_str member.Name d _ _ _ h.name f
type_law d t k p h (other_type bytes found other no_bool no_texts no_lists) =
    let same : bytes ≡ codes "int" = cc (found, h.name) in
    other same
type_law d t k p h (bad_width k' p' name f) =
    let i = inner width_of (option_and_then as_number (member_of member.BitWidth d)) t.bits h.width in
    no_member as_number member.BitWidth d i.0 _ _ i.1 f
type_law d t k p h (other_width width name at none) = cc (at, none, h.width)
type_law d t k p h (bad_sign k' p' name f) = no_member as_bool member.IsSigned d _ _ _ h.sign f

-- of a type that its name describes whole
named_law : (d : Data) (bytes : List ℕ) (k : JsonFaultKind) (p : List Step) → type_name d ≡ Some bytes → bytes ≢ codes "int" → (bytes ≢ codes "bool" → ((w : OffsetWidth) → bytes ≢ texts_name w) → ((w : OffsetWidth) → bytes ≢ lists_name w) → ⊥)
    → TypeFault d k p → ⊥
named_law d bytes k p h no_int known (no_type_object k' p' u) = no_object as_str member.Name d _ h (not_unlike as_object d _ _ u)
named_law d bytes k p h no_int known (bad_type_name k' p' f) = no_member as_str member.Name d _ _ _ h f
named_law d bytes k p h no_int known (other_type other found a b c e) =
    let same : other ≡ bytes = cc (found, h) in
    known (subst (λ x. x ≢ codes "bool") same b) (λ w. subst (λ x. x ≢ texts_name w) same (c w)) (λ w. subst (λ x. x ≢ lists_name w) same (e w))
named_law d bytes k p h no_int known (bad_width k' p' name f) = no_int cc
named_law d bytes k p h no_int known (other_width width name at none) = no_int cc
named_law d bytes k p h no_int known (bad_sign k' p' name f) = no_int cc

shape_law : (d : Data) (s : Shape) (k : JsonFaultKind) (p : List Step) → ReadsShape d s → TypeFault d k p → ⊥
shape_law d (int t) k p h f = type_law d t k p h f
shape_law d boolean k p h f = named_law d (codes "bool") k p h (other_name (codes "bool") (codes "int") (λ e. omega (arith, e))) (λ no_bool no_texts no_lists. no_bool refl) f
shape_law d (texts w) k p h f =
    named_law d (texts_name w) k p h (other_name (texts_name w) (codes "int") (λ e. omega (arith, e, texts_mark w))) (λ no_bool no_texts no_lists. no_texts w refl) f
shape_law d (lists w g) k p h f =
    named_law d (lists_name w) k p h (other_name (lists_name w) (codes "int") (λ e. omega (arith, e, lists_mark w))) (λ no_bool no_texts no_lists. no_lists w refl) f
shape_law d dict k p h f = absurd h

-- lists are called otherwise than a type without children
no_lists_name : (bytes : List ℕ) (w : OffsetWidth) → NamesChildless bytes → bytes ≡ lists_name w → ⊥
no_lists_name bytes w int_name e = other_name (codes "int") (lists_name w) (λ n. omega (arith, n, lists_mark w)) e
no_lists_name bytes w bool_name e = other_name (codes "bool") (lists_name w) (λ n. omega (arith, n, lists_mark w)) e
no_lists_name bytes w (texts_called v) e = other_name (texts_name v) (lists_name w) (λ n. omega (arith, n, texts_mark v, lists_mark w)) e

called_lists : (d : Data) (bytes : List ℕ) → member_type d ≡ Some bytes → NamesChildless bytes → NamesLists d → ⊥
called_lists d bytes named flat called =
    let same : bytes ≡ lists_name called.width = cc (named, called.named) in
    no_lists_name bytes called.width flat same

-- of a field that a dictionary makes no fault of, and whose child has no fault within these lists
has_law : (n : ℕ) (d : Data) (bytes : List ℕ) (b : Bool) (s : Shape) (k : JsonFaultKind) (p : List Step) → option_and_then as_str (member_of member.Name d) ≡ Some bytes
    → option_and_then as_bool (member_of member.Nullable d) ≡ Some b → HasType d s
    → ((e : Data) → member_of member.Dictionary d ≡ Some e → as_null e ≡ None → as_object e ≡ None → ⊥)
    → ((m : ℕ) (e : Data) → n ≡ suc m → member_of member.Dictionary d ≡ Some e → IsObject e → ⊥)
    → ((¬ NamesLists d) → is_childless (member_of member.Children d) ≡ false → ⊥)
    → ((k : JsonFaultKind) (p : List Step) → NamesLists d → MemberFault member.Children (Unlike only_item) d k p → ⊥)
    → (NamesLists d → n ≡ 8 → ⊥)
    → ((child : Data) (k : JsonFaultKind) (p : List Step) → NamesLists d → only_child d ≡ Some child → FieldFault (suc n) child k p → ⊥)
    → FieldFault n d k p → ⊥
has_law n d bytes b s k p name nullable ty encoded nested some one ninth inside (no_field_object n' d' k' p' u) = no_object as_str member.Name d _ name (not_unlike as_object d _ _ u)
has_law n d bytes b s k p name nullable ty encoded nested some one ninth inside (bad_field_name n' d' k' p' f) = no_member as_str member.Name d _ _ _ name f
has_law n d bytes b s k p name nullable ty encoded nested some one ninth inside (bad_nullable n' d' k' p' f) = no_member as_bool member.Nullable d _ _ _ nullable f
has_law n d bytes b s k p name nullable ty encoded nested some one ninth inside (bad_type n' d' k' p' f) =
    under_law member.DataType TypeFault d ty.object _ _ ty.at_type (λ k p w. shape_law ty.object s k p ty.reads w) f
has_law n d bytes b s k p name nullable ty encoded nested some one ninth inside (no_dictionary_object n' d' e k' p' at none u) = encoded e at none (not_unlike as_object e _ _ u)
has_law n d bytes b s k p name nullable ty encoded nested some one ninth inside (encoded_item n' d' e at object) = nested n' e refl at object
has_law n d bytes b s k p name nullable ty encoded nested some one ninth inside (has_children n' d' called named flat e) = some (called_lists d' called named flat) e
has_law n d bytes b s k p name nullable ty encoded nested some one ninth inside (no_child n' d' k' p' is_list f) = one _ _ is_list f
has_law n d bytes b s k p name nullable ty encoded nested some one ninth inside (ninth_list d' is_list) = ninth is_list refl
has_law n d bytes b s k p name nullable ty encoded nested some one ninth inside (bad_child n' d' child k' p' is_list at f) = inside child _ _ is_list at f

-- a dictionary that is absent or null
pub without_law : (d e : Data) → is_without (member_of member.Dictionary d) ≡ true → member_of member.Dictionary d ≡ Some e → as_null e ≡ None → ⊥
without_law d e plain at none = cc (at, none, plain)

-- of a field that is no list
flat_law : (n : ℕ) (d : Data) (bytes : List ℕ) (b : Bool) (s : Shape) (k : JsonFaultKind) (p : List Step) → HasField d bytes b s → is_childless (member_of member.Children d) ≡ true
    → (NamesLists d → ⊥) → FieldFault n d k p → ⊥
flat_law n d bytes b s k p h none flat w =
    has_law n d bytes b s k p h.name h.nullable h.ty
    (λ e at there object. without_law d e h.plain at there)
    (λ m e is at object. without_law d e h.plain at (no_null e object))
    (λ other some. cc (none, some)) (λ k p is_list f. flat is_list) (λ is_list eight. flat is_list) (λ child k p is_list at f. flat is_list) w

-- a field that is read has no fault within as many lists as leave room for its own
within_law : (n : ℕ) (d : Data) (f : FieldShape) (k : JsonFaultKind) (p : List Step) → IsFieldOf d f → n + depth (kind_of_field f) ≤ 8 → FieldFault n d k p → ⊥
within_law n d (field bytes b (int t)) k p h room w = flat_law n d bytes b (int t) k p h.0 h.1 (not_lists d (int t) (codes "int") h.0.ty h.0.ty.reads.name (λ e. omega (arith, e))) w
within_law n d (field bytes b boolean) k p h room w = flat_law n d bytes b boolean k p h.0 h.1 (not_lists d boolean (codes "bool") h.0.ty h.0.ty.reads (λ e. omega (arith, e))) w
within_law n d (field bytes b (texts v)) k p h room w =
    flat_law n d bytes b (texts v) k p h.0 h.1 (not_lists d (texts v) (texts_name v) h.0.ty h.0.ty.reads (λ e. omega (arith, e, texts_mark v))) w
within_law n d (field bytes b (lists v f)) k p h room w =
    has_law n d bytes b (lists v f) k p h.0.name h.0.nullable h.0.ty
    (λ e at there object. without_law d e h.0.plain at there)
    (λ m e is at object. without_law d e h.0.plain at (no_null e object))
    (λ other some. other (record { width = v; named = ap (option_and_then type_name) h.0.ty.at_type ∙ h.0.ty.reads }))
    (λ k p is_list f. no_member only_item member.Children d h.1.0 k p h.1.1 f)
    (λ is_list eight. omega (arith, room, eight))
    (λ child k p is_list at w.
    let same : child ≡ h.1.0 = cc (at, h.1.1) in
    within_law (suc n) h.1.0 f k p h.1.2 (omega (arith, room)) (subst (λ c. FieldFault (suc n) c k p) same w))
    w
within_law n d (field bytes b dict) k p h room w = absurd h.1

shallow_room : (n : ℕ) → nat_lt 8 n ≡ false → 0 + n ≤ 8
shallow_room n h = grind (arith, nat_tests)

-- a field that is encoded has a dictionary object
pub encoding_object : (d : Data) (e : Encoding) → HasEncoding d (Some e) → (object : Data) × (member_of member.Dictionary d ≡ Some object) × IsObject object
encoding_object d e h = (h.0, h.1, has_object id_of member.Id h.0 e.id h.2.id)

-- such an object has no fault as one
object_law : (d e : Data) (x : Encoding) → HasEncoding d (Some x) → member_of member.Dictionary d ≡ Some e → as_object e ≡ None → ⊥
object_law d e x h at none =
    let same : e ≡ h.0 = cc (at, h.1) in
    no_object id_of member.Id e x.id (ap (λ a. option_and_then id_of (member_of member.Id a)) same ∙ h.2.id) none

index_law : (d : Data) (t : IntType) (k : JsonFaultKind) (p : List Step) → ReadsInt d t → IndexFault d k p → ⊥
index_law d t k p h (bad_index_type k' p' w) = type_law d t _ _ h w
index_law d t k p h (other_index bytes found other) =
    let same : bytes ≡ codes "int" = cc (found, h.name) in
    other same

encoding_law : (d : Data) (e : Encoding) (k : JsonFaultKind) (p : List Step) → IsEncoding d e → EncodingFault d k p → ⊥
encoding_law d e k p h (bad_id k' p' f) = no_member id_of member.Id d e.id _ _ h.id f
encoding_law d e k p h (bad_index k' p' f) = under_law member.IndexType IndexFault d h.object _ _ h.at_index (λ k p w. index_law h.object e.index k p h.index w) f

pub encoded_law : (d : Data) (o : Option Encoding) (k : JsonFaultKind) (p : List Step) → HasEncoding d o → EncodedFault d k p → ⊥
encoded_law d None k p h (no_encoding_object e k' p' at none u) = without_law d e h at none
encoded_law d None k p h (bad_encoding e k' p' at object w) = without_law d e h at (no_null e object)
encoded_law d (Some x) k p h (no_encoding_object e k' p' at none u) = object_law d e x h at (not_unlike as_object e _ _ u)
encoded_law d (Some x) k p h (bad_encoding e k' p' at object w) =
    let same : e ≡ h.0 = cc (at, h.1) in
    encoding_law h.0 x k' p' h.2 (subst (λ a. EncodingFault a k' p') same w)

encoded_field_law : (d : Data) (bytes : List ℕ) (b : Bool) (k : JsonFaultKind) (p : List Step) → IsEncodedField d bytes b → FieldFault 0 d k p → ⊥
encoded_field_law d bytes b k p h w =
    let flat = not_lists d (texts Narrow) (codes "utf8") h.ty h.ty.reads (λ e. omega (arith, e)) in
    has_law 0 d bytes b (texts Narrow) k p h.name h.nullable h.ty
    (λ e at there none. object_law d e h.encoded_as h.encoding at none)
    (λ m e is at object. omega (arith, is))
    (λ other some. cc (h.childless, some)) (λ k p is_list f. flat is_list) (λ is_list eight. flat is_list) (λ child k p is_list at f. flat is_list) w

-- a plain field has no dictionary
plain_of : (d : Data) (f : FieldShape) → IsFieldOf d f → is_without (member_of member.Dictionary d) ≡ true
plain_of d (field bytes b s) h = h.0.plain

pub field_law : (d : Data) (f : FieldShape) (k : JsonFaultKind) (p : List Step) → ReadsField d f → TopFault d k p → ⊥
field_law d f k p (plain_field g object shallow) (bad_top k' p' w) = within_law 0 d f _ _ object (shallow_room (depth (kind_of_field f)) shallow) w
field_law d f k p (plain_field g object shallow) (bad_encoded k' p' w) = encoded_law d None _ _ (plain_of d f object) w
field_law d f k p (plain_field g object shallow) (other_values e bytes at is_object named other) = without_law d e (plain_of d f object) at (no_null e is_object)
field_law d f k p (encoded_field bytes b h) (bad_top k' p' w) = encoded_field_law d bytes b _ _ h w
field_law d f k p (encoded_field bytes b h) (bad_encoded k' p' w) = encoded_law d (Some h.encoded_as) _ _ h.encoding w
field_law d f k p (encoded_field bytes' b h) (other_values e bytes at is_object named other) =
    let utf8_named : member_type d ≡ Some (codes "utf8") = ap (option_and_then type_name) h.ty.at_type ∙ h.ty.reads in
    let same : bytes ≡ codes "utf8" = cc in
    other same

pub schema_law : (d : Data) (fields : List FieldShape) (k : JsonFaultKind) (p : List Step) → ReadsSchema d fields → SchemaFault d k p → ⊥
schema_law d fields k p h (no_schema_object k' p' u) = no_object as_array member.Fields d _ h.fields.1 (not_unlike as_object d _ _ u)
schema_law d fields k p h (bad_fields k' p' f) = no_member as_array member.Fields d _ _ _ h.fields.1 f
schema_law d fields k p h (bad_field ds k' p' found f) =
    let same : ds ≡ h.fields.0 = cc (found, h.fields.1) in
    each_law ReadsField TopFault h.fields.0 fields k' p' h.fields.2 field_law (subst (λ x. EachFault TopFault x k' p') same f)

-- ---- two readings of one schema are one

pub same_int : (d : Data) (s t : IntType) → ReadsInt d s → ReadsInt d t → s ≡ t
same_int d s t h g =
    let width : s.bits ≡ t.bits = cc (h.width, g.width) in
    let sign : s.signed ≡ t.signed = cc (h.sign, g.sign) in
    ap (λ w. record { bits = w; signed = s.signed }) width ∙ ap (λ b. record { bits = t.bits; signed = b }) sign

other_names : (d : Data) (a b : List ℕ) → mark a ≢ mark b → type_name d ≡ Some a → type_name d ≡ Some b → ⊥
other_names d a b differ h g =
    let same : a ≡ b = cc in
    other_name a b differ same

mutual
  same_types : (d e : Data) (s t : Shape) → ReadsShape e s → ReadsShape e t → HasChildren d s → HasChildren d t → s ≡ t
  same_types d e (int s) (int t) h g a b = ap int (same_int e s t h g)
  same_types d e (int s) boolean h g a b = absurd (other_names e (codes "int") (codes "bool") (λ e. omega (arith, e)) h.name g)
  same_types d e (int s) (texts w) h g a b = absurd (other_names e (codes "int") (texts_name w) (λ e. omega (arith, e, texts_mark w)) h.name g)
  same_types d e (int s) (lists w f) h g a b = absurd (other_names e (codes "int") (lists_name w) (λ e. omega (arith, e, lists_mark w)) h.name g)
  same_types d e boolean (int t) h g a b = absurd (other_names e (codes "bool") (codes "int") (λ e. omega (arith, e)) h g.name)
  same_types d e boolean boolean h g a b = refl
  same_types d e boolean (texts w) h g a b = absurd (other_names e (codes "bool") (texts_name w) (λ e. omega (arith, e, texts_mark w)) h g)
  same_types d e boolean (lists w f) h g a b = absurd (other_names e (codes "bool") (lists_name w) (λ e. omega (arith, e, lists_mark w)) h g)
  same_types d e (texts v) (int t) h g a b = absurd (other_names e (texts_name v) (codes "int") (λ e. omega (arith, e, texts_mark v)) h g.name)
  same_types d e (texts v) boolean h g a b = absurd (other_names e (texts_name v) (codes "bool") (λ e. omega (arith, e, texts_mark v)) h g)
  same_types d e (texts v) (texts w) h g a b = ap texts (same_texts_width v w cc)
  same_types d e (texts v) (lists w f) h g a b = absurd (other_names e (texts_name v) (lists_name w) (λ e. omega (arith, e, texts_mark v, lists_mark w)) h g)
  same_types d e (lists v f) (int t) h g a b = absurd (other_names e (lists_name v) (codes "int") (λ e. omega (arith, e, lists_mark v)) h g.name)
  same_types d e (lists v f) boolean h g a b = absurd (other_names e (lists_name v) (codes "bool") (λ e. omega (arith, e, lists_mark v)) h g)
  same_types d e (lists v f) (texts w) h g a b = absurd (other_names e (lists_name v) (texts_name w) (λ e. omega (arith, e, lists_mark v, texts_mark w)) h g)
  same_types d e (lists v f) (lists w f') h g a b =
      let same : a.0 ≡ b.0 = cc (a.1, b.1) in
      ap (λ x. lists x f) (same_lists_width v w cc) ∙ ap (lists w) (same_within b.0 f f' (subst (λ c. IsFieldOf c f) same a.2) b.2)
  same_types d e (int s) dict h g a b = absurd b
  same_types d e boolean dict h g a b = absurd b
  same_types d e (texts v) dict h g a b = absurd b
  same_types d e (lists v f) dict h g a b = absurd b
  same_types d e dict t h g a b = absurd a

  same_within : (d : Data) (f g : FieldShape) → IsFieldOf d f → IsFieldOf d g → f ≡ g
  same_within d (field bytes b s) (field bytes' b' s') h g =
      let name : bytes ≡ bytes' = cc (h.0.name, g.0.name) in
      let nullable : b ≡ b' = cc (h.0.nullable, g.0.nullable) in
      let place : h.0.ty.object ≡ g.0.ty.object = cc (h.0.ty.at_type, g.0.ty.at_type) in
      let shape : s ≡ s' = same_types d g.0.ty.object s s' (subst (λ e. ReadsShape e s) place h.0.ty.reads) g.0.ty.reads h.1 g.1 in
      cc (name, nullable, shape)

-- a plain field isn't encoded
pub not_plain : (d : Data) (f : FieldShape) (e : Encoding) → IsFieldOf d f → HasEncoding d (Some e) → ⊥
not_plain d f e h g =
    let o = encoding_object d e g in
    without_law d o.0 (plain_of d f h) o.1 (no_null o.0 o.2)

one_way : (d : Data) (f : FieldShape) (bytes : List ℕ) (b : Bool) → IsFieldOf d f → IsEncodedField d bytes b → ⊥
one_way d f bytes b h g = not_plain d f g.encoded_as h g.encoding

pub same_field : (d : Data) (f g : FieldShape) → ReadsField d f → ReadsField d g → f ≡ g
same_field d f g (plain_field f' h shallow) (plain_field g' k shallow') = same_within d f g h k
same_field d f g (plain_field f' h shallow) (encoded_field bytes b k) = absurd (one_way d f bytes b h k)
same_field d f g (encoded_field bytes b h) (plain_field g' k shallow) = absurd (one_way d g bytes b k h)
same_field d f g (encoded_field bytes b h) (encoded_field bytes' b' k) =
    let name : bytes ≡ bytes' = cc (h.name, k.name) in
    let nullable : b ≡ b' = cc (h.nullable, k.nullable) in
    cc (name, nullable)

pub same_schema : (d : Data) (fs gs : List FieldShape) → HasSchema d fs → HasSchema d gs → fs ≡ gs
same_schema d fs gs h g =
    let place : h.schema ≡ g.schema = cc (h.at_schema, g.at_schema) in
    let reads = subst (λ e. ReadsSchema e fs) place h.reads in
    let found : reads.fields.0 ≡ g.reads.fields.0 = cc (reads.fields.1, g.reads.fields.1) in
    same_each ReadsField g.reads.fields.0 fs gs same_field (subst (λ ds. ReadsEach ReadsField ds fs) found reads.fields.2) g.reads.fields.2

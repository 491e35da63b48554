-- Why a fault that is reported stands: one lemma for each way in which it came about.
use Rattle.std.proofs.Common.{◌≡◌, ◌≢◌, ◌∙◌, ℕ, zero, suc, length, get_or, List, [], ◌∷◌, Option, Some, None, option_and_then, false, codes, refl, sym, ap, subst, arith}
use Rattle.arrays.specs.Prelude.{DataType, OffsetWidth, Shape, shape_of}
use Rattle.arrays.specs.Shape as shape
use Rattle.json_base.specs.Prelude.{Data, IsFault, IsObject, IsUnder, MemberFault, Missing, Num, Tells, Unlike, Value, absent, as_array, as_bool, as_null, as_number, as_object, as_str, items_view, member_of, unlike, view, width_of, wrong}
use Rattle.json_base.specs.declared.path.Member.TheVariants as member
use Rattle.json_base.specs.declared.path.Step.{Step}
use Rattle.json_base.specs.declared.path.Step.TheVariants as step
use Rattle.json_base.specs.declared.fault.JsonFault.{JsonFault}
use Rattle.json_base.specs.declared.fault.JsonFaultKind.{JsonFaultKind}
use Rattle.json_base.specs.declared.fault.JsonFaultKind.TheVariants.{WrongMember, UnsupportedType}
use Rattle.json_base.proofs.JsonTells.{tells_at, tells_as, tells_under, tells_wants}
use Rattle.json_read.specs.Prelude.{FieldFault, IndexFault, IsTypeRead, NamesChildless, NamesLists, ReadsShape, TypeFault, bad_field_name, bad_index_type, bad_nullable, bad_sign, bad_type, bad_type_name, bad_width, bool_name, encoded_item, has_children, int_name, is_childless, lists_name, member_type, ninth_list, no_child, no_dictionary_object, no_field_object, no_type_object, only_child, only_item, other_index, other_type, other_width, texts_called, texts_name, type_name}
use Rattle.json_read.specs.declared.type_object.NamedType.TheVariants.{Flat}
use Rattle.json_read.proofs.JsonNames.{by_width}
use Rattle.json_read.specs.JsonSchemaFault.{bad_child}

-- a fault of the first item of an array
data UnderItem (W : JsonFaultKind → List Step → Type 0) : JsonFaultKind → List Step → Type 0 where
  under_item : (kind : JsonFaultKind) (path : List Step) → W kind path → UnderItem W kind (step.Item 0 ∷ path)

under_child : (n m : ℕ) (d e : Data) (k : JsonFaultKind) (p : List Step) → m ≡ suc n → NamesLists d → only_child d ≡ Some e → UnderItem (FieldFault m e) k p
    → FieldFault n d k (step.Member member.Children ∷ p)
under_child n m d e k p deeper list at (under_item k' p' w) = bad_child n d e k' p' list at (subst (λ x. FieldFault x e k' p') deeper w)

-- ---- types

pub type_object : (d : Data) (f : JsonFault) → Tells (Unlike as_object d) f → Tells (TypeFault d) f
type_object d f t = tells_as (Unlike as_object d) (TypeFault d) f (λ k p h. no_type_object k p h) t

pub type_name_faults : (d : Data) (f : JsonFault) → Tells (MemberFault member.Name (Unlike as_str) d) f → Tells (TypeFault d) f
type_name_faults d f t = tells_as (MemberFault member.Name (Unlike as_str) d) (TypeFault d) f (λ k p h. bad_type_name k p h) t

pub type_other_name : (d : Data) (f : JsonFault) (bytes : List ℕ) → type_name d ≡ Some bytes → bytes ≢ codes "int" → bytes ≢ codes "bool" → bytes ≢ codes "utf8" → bytes ≢ codes "largeutf8"
    → bytes ≢ codes "list" → bytes ≢ codes "largelist" → IsFault UnsupportedType [] f → Tells (TypeFault d) f
type_other_name d f bytes at int bool utf8 large_utf8 list large_list is =
    tells_at (TypeFault d) UnsupportedType [] f (other_type bytes at int bool (by_width (λ w. bytes ≢ texts_name w) utf8 large_utf8) (by_width (λ w. bytes ≢ lists_name w) list large_list)) is

pub type_width : (d : Data) (f : JsonFault) → Tells (MemberFault member.BitWidth (Unlike as_number) d) f → type_name d ≡ Some (codes "int") → Tells (TypeFault d) f
type_width d f t int = tells_as (MemberFault member.BitWidth (Unlike as_number) d) (TypeFault d) f (λ k p h. bad_width k p int h) t

pub type_other_width : (d : Data) (f : JsonFault) (width : Num) → type_name d ≡ Some (codes "int") → option_and_then as_number (member_of member.BitWidth d) ≡ Some width
    → width_of width ≡ None → IsFault UnsupportedType [] f → Tells (TypeFault d) f
type_other_width d f width int at other is = tells_at (TypeFault d) UnsupportedType [] f (other_width width int at other) is

pub type_sign : (d : Data) (f : JsonFault) → Tells (MemberFault member.IsSigned (Unlike as_bool) d) f → type_name d ≡ Some (codes "int") → Tells (TypeFault d) f
type_sign d f t int = tells_as (MemberFault member.IsSigned (Unlike as_bool) d) (TypeFault d) f (λ k p h. bad_sign k p int h) t

-- ---- types of indices

pub index_type : (d : Data) (f : JsonFault) → Tells (TypeFault d) f → Tells (IndexFault d) f
index_type d f t = tells_as (TypeFault d) (IndexFault d) f (λ k p h. bad_index_type k p h) t

pub index_other : (d : Data) (f : JsonFault) (bytes : List ℕ) → type_name d ≡ Some bytes → bytes ≢ codes "int" → IsFault UnsupportedType [] f → Tells (IndexFault d) f
index_other d f bytes at other is = tells_at (IndexFault d) UnsupportedType [] f (other_index bytes at other) is

-- ---- fields

pub field_object : (n : ℕ) (d : Data) (f : JsonFault) → Tells (Unlike as_object d) f → Tells (FieldFault n d) f
field_object n d f t = tells_as (Unlike as_object d) (FieldFault n d) f (λ k p h. no_field_object n d k p h) t

pub field_name_faults : (n : ℕ) (d : Data) (f : JsonFault) → Tells (MemberFault member.Name (Unlike as_str) d) f → Tells (FieldFault n d) f
field_name_faults n d f t = tells_as (MemberFault member.Name (Unlike as_str) d) (FieldFault n d) f (λ k p h. bad_field_name n d k p h) t

pub field_nullable_faults : (n : ℕ) (d : Data) (f : JsonFault) → Tells (MemberFault member.Nullable (Unlike as_bool) d) f → Tells (FieldFault n d) f
field_nullable_faults n d f t = tells_as (MemberFault member.Nullable (Unlike as_bool) d) (FieldFault n d) f (λ k p h. bad_nullable n d k p h) t

pub field_no_type : (n : ℕ) (d : Data) (f : JsonFault) → Tells (Missing member.DataType d) f → Tells (FieldFault n d) f
field_no_type n d f t = tells_as (Missing member.DataType d) (FieldFault n d) f (λ k p h. bad_type n d k p (absent k p h)) t

pub field_type_faults : (n : ℕ) (d e : Data) (f g : JsonFault) → Tells (TypeFault e) f → member_of member.DataType d ≡ Some e → IsUnder (step.Member member.DataType) f g → Tells (FieldFault n d) g
field_type_faults n d e f g t at up =
    tells_under (TypeFault e) (FieldFault n d) (step.Member member.DataType) f g (λ k p h. bad_type n d k (step.Member member.DataType ∷ p) (wrong e k p at h)) t up

pub field_encoded_item : (n : ℕ) (d e : Data) (f : JsonFault) → member_of member.Dictionary d ≡ Some e → IsObject e → n ≢ 0 → IsFault UnsupportedType [] f → Tells (FieldFault n d) f
field_encoded_item zero d e f at object is reported = absurd (is refl)
field_encoded_item (suc n) d e f at object is reported = tells_at (FieldFault (suc n) d) UnsupportedType [] f (encoded_item n d e at object) reported

pub field_no_dictionary : (n : ℕ) (d e : Data) (f g : JsonFault) → Tells (Unlike as_object e) f → member_of member.Dictionary d ≡ Some e → as_null e ≡ None
    → IsUnder (step.Member member.Dictionary) f g → Tells (FieldFault n d) g
field_no_dictionary n d e f g t at some up = tells_under (Unlike as_object e) (FieldFault n d) (step.Member member.Dictionary) f g (λ k p h. no_dictionary_object n d e k p at some h) t up

-- what a field's type object is called
pub named_by : (d e : Data) (o : Option (List ℕ)) → member_of member.DataType d ≡ Some e → type_name e ≡ o → member_type d ≡ o
named_by d e o at named = ap (option_and_then type_name) at ∙ named

pub names_lists : (d : Data) (w : OffsetWidth) → member_type d ≡ Some (lists_name w) → NamesLists d
names_lists d w named = record { width = w; named = named }

-- a type that isn't one of lists isn't called so
pub not_named : (d e : Data) → member_of member.DataType d ≡ Some e → ((w : OffsetWidth) → type_name e ≢ Some (lists_name w)) → ¬ NamesLists d
not_named d e at other lists = other lists.width (sym (named_by d e (type_name e) at refl) ∙ lists.named)

pub field_children_named : (n : ℕ) (d : Data) (bytes : List ℕ) (f : JsonFault) → member_type d ≡ Some bytes → NamesChildless bytes → is_childless (member_of member.Children d) ≡ false
    → IsFault WrongMember (step.Member member.Children ∷ []) f → Tells (FieldFault n d) f
field_children_named n d bytes f named flat h is = tells_at (FieldFault n d) WrongMember (step.Member member.Children ∷ []) f (has_children n d bytes named flat h) is

-- a type that is read and isn't one of lists is called as one without children
childless_shape : (e : Data) (s : Shape) → ReadsShape e s → ((w : OffsetWidth) → type_name e ≢ Some (lists_name w)) → (bytes : List ℕ) × (type_name e ≡ Some bytes) × NamesChildless bytes
childless_shape e (shape.int t) h other = (codes "int", h.name, int_name)
childless_shape e shape.boolean h other = (codes "bool", h, bool_name)
childless_shape e (shape.texts w) h other = (texts_name w, h, texts_called w)
childless_shape e (shape.lists w f) h other = absurd (other w h)
childless_shape e shape.dict h other = absurd h

pub field_children : (n : ℕ) (d e : Data) (s : Shape) (f : JsonFault) → member_of member.DataType d ≡ Some e → ReadsShape e s → ((w : OffsetWidth) → type_name e ≢ Some (lists_name w))
    → is_childless (member_of member.Children d) ≡ false → IsFault WrongMember (step.Member member.Children ∷ []) f → Tells (FieldFault n d) f
field_children n d e s f at reads other h is =
    let flat = childless_shape e s reads other in
    field_children_named n d flat.0 f (named_by d e (Some flat.0) at flat.1) flat.2 h is

-- the same of the type as its reader has it
pub field_children_read : (n : ℕ) (d e : Data) (t : DataType) (f : JsonFault) → member_of member.DataType d ≡ Some e → IsTypeRead e (Flat t)
    → is_childless (member_of member.Children d) ≡ false → IsFault WrongMember (step.Member member.Children ∷ []) f → Tells (FieldFault n d) f
field_children_read n d e t f at read h is = field_children n d e (shape_of t) f at read.0 read.1 h is

pub field_no_child : (n : ℕ) (d : Data) (f : JsonFault) → Tells (Missing member.Children d) f → NamesLists d → Tells (FieldFault n d) f
field_no_child n d f t list = tells_as (Missing member.Children d) (FieldFault n d) f (λ k p h. no_child n d k p list (absent k p h)) t

pub field_other_child : (n : ℕ) (d e : Data) (f : JsonFault) → member_of member.Children d ≡ Some e → only_item e ≡ None → NamesLists d
    → IsFault WrongMember (step.Member member.Children ∷ []) f → Tells (FieldFault n d) f
field_other_child n d e f at none list is =
    tells_at (FieldFault n d) WrongMember (step.Member member.Children ∷ []) f (no_child n d WrongMember (step.Member member.Children ∷ []) list (wrong e WrongMember [] at (unlike none))) is

pub field_ninth : (n : ℕ) (d : Data) (f : JsonFault) → NamesLists d → n ≡ 8 → IsFault UnsupportedType [] f → Tells (FieldFault n d) f
field_ninth n d f list eight is = subst (λ m. Tells (FieldFault m d) f) (sym eight) (tells_at (FieldFault 8 d) UnsupportedType [] f (ninth_list d list) is)

-- twice under: the child's place among the children, and these
pub field_child : (n m : ℕ) (d e : Data) (f g h : JsonFault) → Tells (FieldFault m e) f → m ≡ suc n → NamesLists d → only_child d ≡ Some e → IsUnder (step.Item 0) f g
    → IsUnder (step.Member member.Children) g h → Tells (FieldFault n d) h
field_child n m d e f g h t deeper list at first up =
    tells_under (UnderItem (FieldFault m e)) (FieldFault n d) (step.Member member.Children) g h
    (λ k p under. under_child n m d e k p deeper list at under)
    (tells_under (FieldFault m e) (UnderItem (FieldFault m e)) (step.Item 0) f g (λ k p w. under_item k p w) t first) up

-- the item of an array of exactly one
pub only_of-one : (d : Data) (vs : List Value) (v : Value) → as_array d ≡ Some (items_view vs) → length vs ≡ 1 → v ≡ get_or vs 0 v → only_item d ≡ Some (view v)
only_of-one d [] v at len is = absurd (omega (arith, len))
only_of-one d (x ∷ []) v at len is = rw at (ap (λ y. Some (view y)) (sym is))
only_of-one d (x ∷ y ∷ vs) v at len is = absurd (omega (arith, len))

pub only_of-other : (d : Data) (vs : List Value) → as_array d ≡ Some (items_view vs) → length vs ≢ 1 → only_item d ≡ None
only_of-other d [] at len = rw at refl
only_of-other d (x ∷ []) at len = absurd (len refl)
only_of-other d (x ∷ y ∷ vs) at len = rw at refl

pub ruleset only_items = (only_of-one, only_of-other)

pub ruleset type_faults = (type_object, type_name_faults, type_other_name, type_width, type_other_width, type_sign)

pub ruleset index_faults = (type_object, type_name_faults, index_type, index_other)

pub ruleset field_faults = (field_object, field_name_faults, field_nullable_faults, field_no_type, field_type_faults, field_encoded_item, field_no_dictionary, named_by, names_lists, not_named, field_children, field_children_read, field_no_child, field_other_child, field_ninth, field_child, tells_wants)

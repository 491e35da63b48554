-- What a batch's columns are, and why its faults stand.
use Rattle.std.proofs.Common.{◌≡◌, ◌∙◌, ℕ, ◌+◌, ◌<◌, List, [], ◌∷◌, ◌++◌, length, get_or, map, Option, Some, None, IfSome, option_map, option_and_then, refl, sym, ap, subst, arith, length-append, below_more}
use Rattle.std.specs.List.{slice_get}
use Rattle.std.proofs.lemmas.List.{length-map}
use Rattle.std.proofs.lemmas.Option.{slice_get-map, slice_get_within, slice_get_read}
use Rattle.arrays.specs.Kind as kind
use Rattle.arrays.specs.Prelude.{Field, FieldShape, Kind, Seen, field_of, fields_of, kind_of, kind_of_field, out-Field}
use Rattle.arrays.proofs.ShapeLemmas.{kind_of_field-field_of}
use Rattle.json_base.specs.Prelude.{Data, IsFault, IsUnder, Items, ListFault, MemberFault, Tells, Unlike, Value, as_array, as_object, count_of, get_item, items_view, member_of, view}
use Rattle.json_base.specs.declared.path.Member.TheVariants as member
use Rattle.json_base.specs.declared.path.Step.TheVariants as step
use Rattle.json_base.proofs.JsonItems.{slice_get-front, slice_get-last}
use Rattle.json_read.proofs.JsonColumnFaults.{at_index}
use Rattle.json_base.specs.declared.fault.JsonFault.{JsonFault}
use Rattle.json_base.specs.declared.fault.JsonFaultKind.TheVariants.{UnsupportedType}
use Rattle.json_read.specs.Prelude.{BatchFault, CodedFault, Coding, ColumnsFault, HoldsColumn, HoldsColumns, HoldsTop, IsCatalogOf, KindFault, ReadsCodes, Unread, bad_column, bad_columns, bad_list, bad_rows, coding_of, no_batch_object, unread}
use Rattle.json_read.specs.declared.catalog.Coding as reader
use Rattle.json_base.proofs.JsonTells.{tells_at, tells_as, tells_under, tells_wants}

pub tells_unread : (k : Kind) (n : ℕ) (d : Data) (f : JsonFault) → (Unread UnsupportedType [] → KindFault k n d UnsupportedType []) → IsFault UnsupportedType [] f → Tells (KindFault k n d) f
tells_unread k n d f is reported = tells_at (KindFault k n d) UnsupportedType [] f (is unread) reported

-- ---- the fields of a schema, one by one

slice_get_from_get_or : {A : Type 0} (xs : List A) (i : ℕ) (x : A) → i < length xs → x ≡ get_or xs i x → slice_get xs i ≡ Some x
slice_get_from_get_or xs i x within is = slice_get_read xs (length xs) i x refl within is

pub field_at : (fs : List Field) (i : ℕ) (f : Field) → i < length fs → f ≡ get_or fs i f → slice_get (fields_of fs) i ≡ Some (field_of f)
field_at fs i f within is = slice_get-map field_of fs i ∙ ap (option_map field_of) (slice_get_from_get_or fs i f within is)

-- ---- columns

-- the coding of a field
pub coding_at : (cs : List (Option reader.Coding)) (i : ℕ) (c : Option reader.Coding) → i < length cs → c ≡ get_or cs i c → slice_get (map (option_map coding_of) cs) i ≡ Some (option_map coding_of c)
coding_at cs i c within is = slice_get-map (option_map coding_of) cs i ∙ ap (option_map (option_map coding_of)) (slice_get_from_get_or cs i c within is)

pub tells_column : (fs : List Field) (cs : List (Option reader.Coding)) (n : ℕ) (vs : List Value) (i : ℕ) (f : Field) (c : Option reader.Coding) (v : Value) (g h : JsonFault)
    → Tells (CodedFault (kind_of (out-Field f).ty) (option_map coding_of c) n (view v)) g → i < length fs → f ≡ get_or fs i f → i < length cs → c ≡ get_or cs i c → i < length vs → v ≡ get_or vs i v
    → IsUnder (step.Item i) g h → Tells (ColumnsFault (fields_of fs) (map (option_map coding_of) cs) n (items_view vs)) h
tells_column fs cs n vs i f c v g h reported at_field is_field at_coding is_coding at_value is_value up =
    tells_under (CodedFault (kind_of (out-Field f).ty) (option_map coding_of c) n (view v)) (ColumnsFault (fields_of fs) (map (option_map coding_of) cs) n (items_view vs)) (step.Item i) g h
    (λ k p w. bad_column i (field_of f) (option_map coding_of c) (view v) k p (field_at fs i f at_field is_field) (coding_at cs i c at_coding is_coding) (at_index vs i v at_value is_value)
    (subst (λ a. CodedFault a (option_map coding_of c) n (view v) k p) (sym (kind_of_field-field_of f)) w))
    reported up

wrapper : (n : ℕ) (f g : FieldShape) (c b : Option Coding) (d e : Data) (s t : Seen) → HoldsTop (kind_of_field f) c n d s → Some f ≡ Some g → Some c ≡ Some b → Some d ≡ Some e → Some s ≡ Some t
    → HoldsTop (kind_of_field g) b n e t
wrapper n f g c b d e s t h p q r u =
    let a : f ≡ g = cc in
    let a' : c ≡ b = cc in
    let b' : d ≡ e = cc in
    let c' : s ≡ t = cc in
    subst (λ x. HoldsTop (kind_of_field x) b n e t) a (subst (λ x. HoldsTop (kind_of_field f) x n e t) a' (subst (λ x. HoldsTop (kind_of_field f) c n x t) b' (subst (λ x. HoldsTop (kind_of_field f) c n d x) c' h)))

pub column_pushed : (fields : List FieldShape) (catalog : List (Option Coding)) (n : ℕ) (ds : Items) (m : ℕ) (columns : List Seen) (f : FieldShape) (b : Option Coding) (d : Data) (s : Seen)
    → HoldsColumns fields catalog n ds m columns → slice_get fields m ≡ Some f → slice_get catalog m ≡ Some b → get_item m ds ≡ Some d → HoldsTop (kind_of_field f) b n d s
    → HoldsColumns fields catalog n ds (m + 1) (columns ++ s ∷ [])
column_pushed fields catalog n ds m columns f b d s h at_field at_coding at_item column = record {
  len = omega (arith, length-append columns (s ∷ []), h.len);
  each = λ i g c e t field coding found got.
      below_more
      (λ k. (g : FieldShape) (c : Option Coding) (e : Data) (t : Seen) → slice_get fields k ≡ Some g → slice_get catalog k ≡ Some c → get_item k ds ≡ Some e → slice_get (columns ++ s ∷ []) k ≡ Some t
      → HoldsTop (kind_of_field g) c n e t)
      m
      (λ k within g c e t field coding found got. h.each k g c e t field coding found (sym (slice_get-front columns (s ∷ []) k (omega (arith, h.len))) ∙ got))
      (λ g c e t field coding found got. wrapper n f g b c d e s t column (sym at_field ∙ field) (sym at_coding ∙ coding) (sym at_item ∙ found) (sym (slice_get-last columns s) ∙ (ap (slice_get (columns ++ s ∷ [])) h.len ∙ got)))
      i (omega (arith, slice_get_within (columns ++ s ∷ []) i t got, length-append columns (s ∷ []), h.len)) g c e t field coding found got;
}

-- the loop's step
pub columns_pushed : (fs : List Field) (cs : List (Option reader.Coding)) (n : ℕ) (vs : List Value) (m : ℕ) (columns : List Seen) (f : Field) (c : Option reader.Coding) (v : Value) (s : Seen)
    → HoldsColumns (fields_of fs) (map (option_map coding_of) cs) n (items_view vs) m columns → m < length fs → f ≡ get_or fs m f → m < length cs → c ≡ get_or cs m c → m < length vs
    → v ≡ get_or vs m v → HoldsTop (kind_of (out-Field f).ty) (option_map coding_of c) n (view v) s
    → HoldsColumns (fields_of fs) (map (option_map coding_of) cs) n (items_view vs) (m + 1) (columns ++ s ∷ [])
columns_pushed fs cs n vs m columns f c v s h at_field is_field at_coding is_coding at_value is_value column =
    column_pushed (fields_of fs) (map (option_map coding_of) cs) n (items_view vs) m columns (field_of f) (option_map coding_of c) (view v) s h (field_at fs m f at_field is_field)
    (coding_at cs m c at_coding is_coding) (at_index vs m v at_value is_value)
    (subst (λ a. HoldsTop a (option_map coding_of c) n (view v) s) (sym (kind_of_field-field_of f)) column)

-- the codings are as many as the fields, and those that are encoded are dictionaries
pub catalog_count : (fs : List Field) (cs : List (Option reader.Coding)) → IsCatalogOf (fields_of fs) (map (option_map coding_of) cs) → length cs ≡ length fs
catalog_count fs cs h = omega (arith, length-map cs (option_map coding_of), length-map fs field_of, h.len)

encoded_by : (k : Kind) (c : Option reader.Coding) → ((x : Coding) → option_map coding_of c ≡ Some x → k ≡ kind.dict) → IfSome c (λ _. k ≡ kind.dict)
encoded_by k None h = tt
encoded_by k (Some c) h = h (coding_of c) refl

pub encoded_field_at : (fs : List Field) (cs : List (Option reader.Coding)) (i : ℕ) (f : Field) (c : Option reader.Coding) → IsCatalogOf (fields_of fs) (map (option_map coding_of) cs)
    → i < length fs → f ≡ get_or fs i f → i < length cs → c ≡ get_or cs i c → IfSome c (λ _. kind_of (out-Field f).ty ≡ kind.dict)
encoded_field_at fs cs i f c h at_field is_field at_coding is_coding =
    encoded_by (kind_of (out-Field f).ty) c
    (λ x is. sym (kind_of_field-field_of f) ∙ h.encoded i (field_of f) x (field_at fs i f at_field is_field) (coding_at cs i c at_coding is_coding ∙ ap Some is))

-- a column that isn't encoded, and one that is
pub top_plain : (k : Kind) (n : ℕ) (d : Data) (s : Seen) → HoldsColumn k n d s → HoldsTop k None n d s
top_plain k n d s h = record { kind = h.kind; len = h.len; reads = h.reads }

pub top_coded : (k : Kind) (c : Coding) (n : ℕ) (d : Data) (s : Seen) → k ≡ kind.dict → s.kind ≡ kind.dict → ReadsCodes c.index c.texts n d s.items → HoldsTop k (Some c) n d s
top_coded k c n d s is same h = record { kind = same ∙ sym is; len = h.slots.len; reads = h }

pub ruleset coded_faults = (top_plain, top_coded)

pub ruleset columns_faults = (tells_column, tells_wants)

-- ---- batches

pub batch_object : (fields : List FieldShape) (catalog : List (Option Coding)) (d : Data) (f : JsonFault) → Tells (Unlike as_object d) f → Tells (BatchFault fields catalog d) f
batch_object fields catalog d f h = tells_as (Unlike as_object d) (BatchFault fields catalog d) f (λ k p w. no_batch_object k p w) h

pub batch_rows : (fields : List FieldShape) (catalog : List (Option Coding)) (d : Data) (f : JsonFault) → Tells (MemberFault member.Count (Unlike count_of) d) f → Tells (BatchFault fields catalog d) f
batch_rows fields catalog d f h = tells_as (MemberFault member.Count (Unlike count_of) d) (BatchFault fields catalog d) f (λ k p w. bad_rows k p w) h

pub batch_list : (fields : List FieldShape) (catalog : List (Option Coding)) (d : Data) (f : JsonFault) → Tells (MemberFault member.Columns (ListFault (length fields)) d) f → Tells (BatchFault fields catalog d) f
batch_list fields catalog d f h = tells_as (MemberFault member.Columns (ListFault (length fields)) d) (BatchFault fields catalog d) f (λ k p w. bad_list k p w) h

pub batch_columns : (fields : List FieldShape) (catalog : List (Option Coding)) (d : Data) (rows : ℕ) (ds : Items) (f g : JsonFault) → Tells (ColumnsFault fields catalog rows ds) f
    → option_and_then count_of (member_of member.Count d) ≡ Some rows → option_and_then as_array (member_of member.Columns d) ≡ Some ds → IsUnder (step.Member member.Columns) f g
    → Tells (BatchFault fields catalog d) g
batch_columns fields catalog d rows ds f g reported at_rows at_list up =
    tells_under (ColumnsFault fields catalog rows ds) (BatchFault fields catalog d) (step.Member member.Columns) f g (λ k p w. bad_columns rows ds k p at_rows at_list w) reported up

pub ruleset batch_faults = (batch_object, batch_rows, batch_list, batch_columns)

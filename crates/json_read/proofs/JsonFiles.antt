-- What a file's batches are, and why its faults stand.
use Rattle.std.proofs.Common.{◌≡◌, ℕ, zero, suc, ◌+◌, ◌<◌, List, [], ◌∷◌, ◌++◌, length, get_or, map, Option, Some, option_and_then, IsUtf8, refl, sym, ap, subst, arith, ◌∙◌}
use Rattle.std.specs.List.{AllByRecursion, slice_get}
use Rattle.std.proofs.lemmas.List.{map-append}
use Rattle.std.proofs.lemmas.Option.{slice_get_within}
use Rattle.arrays.specs.Kind as kind
use Rattle.arrays.specs.Prelude.{Batch, FieldShape, kind_of_field, kinds_of}
use Rattle.json_base.specs.Prelude.{Data, EachFault, IsUnder, Items, MemberFault, Missing, NoDocument, ReadsEach, ReadsFirst, Tells, Unlike, Value, absent, as_array, as_object, items_view, member_of, no_document, read, table_of, view, wrong}
use Rattle.json_base.specs.declared.path.Member.TheVariants as member
use Rattle.json_base.specs.declared.path.Step.{Step}
use Rattle.json_base.specs.declared.path.Step.TheVariants as step
use Rattle.json_base.specs.declared.fault.JsonFault.{JsonFault}
use Rattle.json_base.specs.declared.fault.JsonFaultKind.{JsonFaultKind}
use Rattle.json_read.specs.Prelude.{AreEncoded, AreUnder, BatchFault, BytesFault, CatalogFault, Coding, Encoding, FileFault, HasCatalog, HasCoding, HasEncodings, HasSchema, IsCatalogOf, ReadsBatch, ReadsField, SchemaFault, bad_batch, bad_batches, bad_catalog, bad_file, bad_schema, encoded_field, listed_fields, no_file_object, no_json, plain_field}
use Rattle.json_base.proofs.JsonTells.{tells_as, tells_under, tells_wants, tells_item_at}
use Rattle.json_base.proofs.JsonItems.{each_pushed, get_item_some}
use Rattle.json_read.proofs.SchemaLaws.{not_plain}

pub tells_batch : (fields : List FieldShape) (catalog : List (Option Coding)) (vs : List Value) (i : ℕ) (v : Value) (f g : JsonFault) → Tells (BatchFault fields catalog (view v)) f → i < length vs → v ≡ get_or vs i v
    → IsUnder (step.Item i) f g → Tells (EachFault (BatchFault fields catalog) (items_view vs)) g
tells_batch fields catalog vs i v f g t within is up = tells_item_at (BatchFault fields catalog) vs i v f g t within is up

-- the loop's step
pub batch_pushed : (fields : List FieldShape) (catalog : List (Option Coding)) (vs : List Value) (n : ℕ) (bs : List Batch) (v : Value) (b : Batch) → ReadsFirst (ReadsBatch fields catalog) (items_view vs) n (map table_of bs)
    → n < length vs → v ≡ get_or vs n v → ReadsBatch fields catalog (view v) (table_of b) → ReadsFirst (ReadsBatch fields catalog) (items_view vs) (n + 1) (map table_of (bs ++ b ∷ []))
batch_pushed fields catalog vs n bs v b h within is batch =
    rw (map-append table_of bs (b ∷ [])) (each_pushed (ReadsBatch fields catalog) vs n (map table_of bs) v (table_of b) h within is batch)

pub ruleset batches_faults = (tells_batch, tells_wants)

pub file_object : (d : Data) (f : JsonFault) → Tells (Unlike as_object d) f → Tells (FileFault d) f
file_object d f t = tells_as (Unlike as_object d) (FileFault d) f (λ k p h. no_file_object k p h) t

pub file_no_schema : (d : Data) (f : JsonFault) → Tells (Missing member.Schema d) f → Tells (FileFault d) f
file_no_schema d f t = tells_as (Missing member.Schema d) (FileFault d) f (λ k p h. bad_schema k p (absent k p h)) t

pub file_schema : (d e : Data) (f g : JsonFault) → Tells (SchemaFault e) f → member_of member.Schema d ≡ Some e → IsUnder (step.Member member.Schema) f g → Tells (FileFault d) g
file_schema d e f g t at up =
    tells_under (SchemaFault e) (FileFault d) (step.Member member.Schema) f g (λ k p h. bad_schema k (step.Member member.Schema ∷ p) (wrong e k p at h)) t up

pub file_catalog : (d : Data) (f : JsonFault) → Tells (CatalogFault d) f → Tells (FileFault d) f
file_catalog d f t = tells_as (CatalogFault d) (FileFault d) f (λ k p h. bad_catalog k p h) t

-- the objects of the fields
fields_listed : (d schema : Data) (ds : Items) → member_of member.Schema d ≡ Some schema → option_and_then as_array (member_of member.Fields schema) ≡ Some ds → listed_fields d ≡ Some ds
fields_listed d schema ds at found = ap (λ o. option_and_then as_array (option_and_then (member_of member.Fields) o)) at ∙ found

-- how their columns are encoded
pub encodings_listed : (d schema : Data) (encodings : List (Option Encoding)) → member_of member.Schema d ≡ Some schema → AreEncoded schema encodings → HasEncodings d encodings
encodings_listed d schema encodings at h = record { fields = h.fields; listed = fields_listed d schema h.fields at h.listed; each = h.each }

-- the catalog of a file's fields
coding_kind : (d e : Data) (f : FieldShape) (c : Coding) → ReadsField e f → HasCoding d e (Some c) → kind_of_field f ≡ kind.dict
coding_kind d e f c (plain_field g object shallow) h = absurd (not_plain e f record { id = h.id; index = c.index } object h.encoding)
coding_kind d e f c (encoded_field bytes b g) h = refl

pub catalog_of : (d : Data) (fields : List FieldShape) (catalog : List (Option Coding)) → HasSchema d fields → HasCatalog d catalog → IsCatalogOf fields catalog
catalog_of d fields catalog h g =
    let listed = fields_listed d h.schema h.reads.fields.0 h.at_schema h.reads.fields.1 in
    let same : g.fields ≡ h.reads.fields.0 = cc (listed, g.listed) in
    let each = subst (λ ds. ReadsEach (HasCoding d) ds catalog) same g.each in
    record {
      len = each.len ∙ sym h.reads.fields.2.len;
      encoded = λ i f c at_field at_coding.
          let e = get_item_some h.reads.fields.0 i (omega (arith, slice_get_within fields i f at_field, h.reads.fields.2.len)) in
          coding_kind d e.0 f c (h.reads.fields.2.each i e.0 f e.1 at_field) (each.each i e.0 (Some c) e.1 at_coding);
    }

pub file_batches : (d : Data) (f : JsonFault) → Tells (MemberFault member.Batches (Unlike as_array) d) f → Tells (FileFault d) f
file_batches d f t = tells_as (MemberFault member.Batches (Unlike as_array) d) (FileFault d) f (λ k p h. bad_batches k p h) t

pub file_batch : (d : Data) (fields : List FieldShape) (catalog : List (Option Coding)) (ds : Items) (f g : JsonFault) → Tells (EachFault (BatchFault fields catalog) ds) f → HasSchema d fields → HasCatalog d catalog
    → option_and_then as_array (member_of member.Batches d) ≡ Some ds → IsUnder (step.Member member.Batches) f g → Tells (FileFault d) g
file_batch d fields catalog ds f g t schema coded at up =
    tells_under (EachFault (BatchFault fields catalog) ds) (FileFault d) (step.Member member.Batches) f g (λ k p h. bad_batch fields catalog ds k p schema coded at h) t up

pub ruleset file_faults = (file_object, file_no_schema, file_schema, encodings_listed, file_catalog, catalog_of, file_batches, file_batch)

no_file : (bytes : List ℕ) (k : JsonFaultKind) (p : List Step) → NoDocument bytes k p → BytesFault bytes k p
no_file bytes k p (no_document h) = no_json h

pub bytes_no_json : (bytes : List ℕ) (f : JsonFault) → Tells (NoDocument bytes) f → Tells (BytesFault bytes) f
bytes_no_json bytes f t = tells_as (NoDocument bytes) (BytesFault bytes) f (no_file bytes) t

pub bytes_file : (bytes : List ℕ) (d : Data) (f : JsonFault) → Tells (FileFault d) f → IsUtf8 bytes → read bytes ≡ Some d → Tells (BytesFault bytes) f
bytes_file bytes d f t text parsed = tells_as (FileFault d) (BytesFault bytes) f (λ k p h. bad_file d k p text parsed h) t

pub ruleset bytes_faults = (bytes_no_json, bytes_file, tells_wants)

-- ---- the batches are under the schema

each_under : (fields : List FieldShape) (bs : List Batch) (b : Batch) → AllByRecursion (λ x. x.fields ≡ fields) bs → b.fields ≡ fields → AllByRecursion (λ x. x.fields ≡ fields) (bs ++ b ∷ [])
each_under fields [] b h is = (is, tt)
each_under fields (x ∷ bs) b h is = (h.0, each_under fields bs b h.1 is)

pub AreUnder-push : (fields : List FieldShape) (bs new : List Batch) (b : Batch) → AreUnder fields bs → b.fields ≡ fields → new ≡ bs ++ b ∷ [] → AreUnder fields new
AreUnder-push fields bs new b under is grown = subst (AreUnder fields) (sym grown) (each_under fields bs b under is)

under_at : (fields : List FieldShape) (bs : List Batch) (i : ℕ) (b : Batch) → AreUnder fields bs → slice_get bs i ≡ Some b → b.fields ≡ fields
under_at fields [] i b h at = absurd (omega (arith, slice_get_within [] i b at))
under_at fields (x ∷ bs) zero b h at =
    let same : x ≡ b = cc at in
    subst (λ y. y.fields ≡ fields) same h.0
under_at fields (x ∷ bs) (suc i) b h at = under_at fields bs i b h.1 at

pub kinds_under : (fields : List FieldShape) (bs : List Batch) → AreUnder fields bs → (i : ℕ) (b : Batch) → slice_get bs i ≡ Some b → kinds_of b.fields ≡ kinds_of fields
kinds_under fields bs h i b at = ap kinds_of (under_at fields bs i b h at)

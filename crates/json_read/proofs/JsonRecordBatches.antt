-- Columns that are read make a lawful record batch.
use Rattle.std.proofs.Common.{◌≡◌, ◌∙◌, ℕ, zero, suc, ◌^◌, ◌<◌, ◌==◌, true, false, not, nat_lt, List, [], ◌∷◌, length, map, Option, Some, None, option_map, option_and_then, refl, sym, ap, subst, arith}
use Rattle.std.specs.List.{slice_get, zip}
use Rattle.std.proofs.lemmas.List.{length-map}
use Rattle.std.proofs.lemmas.Option.{slice_get-map, slice_get_within}
use Rattle.std.proofs.lemmas.Bool.Decides.{nat_tests}
use Rattle.std.proofs.lemmas.Bool.{eq-eqb}
use Rattle.arrays.specs.Prelude.{Batch, Field, FieldShape, Seen, batch_fault, differing_length, differing_type, fields_of, kind_of_field, same_kind}
use Rattle.arrays.proofs.ListArrays.{same_kind-refl}
use Rattle.json_base.specs.Prelude.{Data, Items, Value, as_array, count_of, items_len, items_view, member_of, table_of}
use Rattle.json_base.proofs.Views.{items_len-items_view}
use Rattle.json_base.specs.declared.path.Member.TheVariants as member
use Rattle.json_read.specs.Prelude.{Coding, HoldsColumns, HoldsTop, ReadsBatch, ReadsColumns, ReadsTop}
use Rattle.json_base.proofs.JsonItems.{get_item_some}
use Rattle.json_base.proofs.MemberLaws.{slice_get_some}
use Rattle.json_read.proofs.JsonSchemas.{position-none}

both_at : {A B : Type 0} (xs : List A) (ys : List B) (i : ℕ) (p : A × B) → slice_get (zip xs ys) i ≡ Some p → (slice_get xs i ≡ Some p.0) × (slice_get ys i ≡ Some p.1)
both_at [] ys i p h = absurd cc
both_at (x ∷ xs) [] i p h = absurd cc
both_at (x ∷ xs) (y ∷ ys) zero p h =
    let e : (x, y) ≡ p = cc in
    (ap (λ q. Some q.0) e, ap (λ q. Some q.1) e)
both_at (x ∷ xs) (y ∷ ys) (suc i) p h = both_at xs ys i p h

column_at : (fields : List FieldShape) (catalog : List (Option Coding)) (rows : ℕ) (ds : Items) (cs : List Seen) → HoldsColumns fields catalog rows ds (length fields) cs → items_len ds ≡ length fields
    → length catalog ≡ length fields → (i : ℕ) (f : FieldShape) (s : Seen) → slice_get fields i ≡ Some f → slice_get cs i ≡ Some s → i < length fields
    → (d : Data) × (c : Option Coding) × HoldsTop (kind_of_field f) c rows d s
column_at fields catalog rows ds cs h whole many i f s field got within =
    let found = get_item_some ds i (omega arith) in
    let coding = slice_get_some catalog i (omega arith) in
    (found.0, coding.0, h.each i f coding.0 found.0 s field coding.1 found.1 got)

types_agree : (fields : List FieldShape) (catalog : List (Option Coding)) (rows : ℕ) (ds : Items) (cs : List Seen) → HoldsColumns fields catalog rows ds (length fields) cs → items_len ds ≡ length fields → length catalog ≡ length fields → differing_type fields cs ≡ None
types_agree fields catalog rows ds cs h whole many =
    position-none (λ p. not (same_kind p.0.kind (kind_of_field p.1))) (zip cs fields)
    (λ i p at.
    let both = both_at cs fields i p at in
    let column = column_at fields catalog rows ds cs h whole many i p.1 p.0 both.1 both.0 (slice_get_within fields i p.1 both.1) in
    ap (λ k. not (same_kind k (kind_of_field p.1))) column.2.kind ∙ ap not (same_kind-refl (kind_of_field p.1)))

lengths_agree : (fields : List FieldShape) (catalog : List (Option Coding)) (rows : ℕ) (ds : Items) (cs : List Seen) → HoldsColumns fields catalog rows ds (length fields) cs → items_len ds ≡ length fields → length catalog ≡ length fields → differing_length rows cs ≡ None
lengths_agree fields catalog rows ds cs h whole many =
    position-none (λ s. not (length s.items == rows)) cs
    (λ i s at.
    let within : i < length fields = omega (arith, slice_get_within cs i s at, h.len) in
    let field = slice_get_some fields i within in
    let column = column_at fields catalog rows ds cs h whole many i field.0 s field.1 at within in
    ap not (eq-eqb (length s.items) rows column.2.len))

lawful : (fields : List FieldShape) (rows : ℕ) (cs : List Seen) → length cs ≡ length fields → differing_type fields cs ≡ None → differing_length rows cs ≡ None → rows < 2 ^ 31 → batch_fault fields rows cs ≡ None
lawful fields rows cs len types lengths small =
    let count : (length cs == length fields) ≡ true = eq-eqb (length cs) (length fields) len in
    let short : nat_lt 2147483647 rows ≡ false = grind (arith, nat_tests) in
    rw (count, types, short, lengths) refl

whole_columns : (fields : List FieldShape) (catalog : List (Option Coding)) (fs : List Field) (rows : ℕ) (ds : Items) (cs : List Seen) → fields_of fs ≡ fields → HoldsColumns (fields_of fs) catalog rows ds (length fs) cs → HoldsColumns fields catalog rows ds (length fields) cs
whole_columns fields catalog fs rows ds cs is h =
    subst (λ m. HoldsColumns fields catalog rows ds m cs) (sym (length-map fs _) ∙ ap length is) (subst (λ g. HoldsColumns g catalog rows ds (length fs) cs) is h)

pub batch_fault-read : (fields : List FieldShape) (catalog : List (Option Coding)) (fs : List Field) (rows : ℕ) (vs : List Value) (cs : List Seen) → fields_of fs ≡ fields → HoldsColumns (fields_of fs) catalog rows (items_view vs) (length fs) cs
    → length vs ≡ length fields → length catalog ≡ length fields → rows < 2 ^ 31 → batch_fault fields rows cs ≡ None
batch_fault-read fields catalog fs rows vs cs is columns len many small =
    let h = whole_columns fields catalog fs rows (items_view vs) cs is columns in
    let whole = items_len-items_view vs ∙ len in
    lawful fields rows cs h.len (types_agree fields catalog rows (items_view vs) cs h whole many) (lengths_agree fields catalog rows (items_view vs) cs h whole many) small

some_under : {A B : Type 0} (f : A → B) (o : Option A) (y : B) → option_map f o ≡ Some y → (x : A) × (o ≡ Some x) × (f x ≡ y)
some_under f None y h = absurd cc
some_under f (Some x) y h = (x, refl, cc)

reads_columns : (fields : List FieldShape) (catalog : List (Option Coding)) (rows : ℕ) (ds : Items) (m : ℕ) (cs : List Seen) → HoldsColumns fields catalog rows ds m cs → ReadsColumns fields catalog rows ds m (map (λ s. s.items) cs)
reads_columns fields catalog rows ds m cs h = record {
  len = length-map cs _ ∙ h.len;
  each = λ i f c d items field coding found got.
      let s = some_under (λ (s : Seen). s.items) (slice_get cs i) items (sym (slice_get-map (λ s. s.items) cs i) ∙ got) in
      subst (λ xs. ReadsTop (kind_of_field f) c rows d xs) s.2 (h.each i f c d s.0 field coding found s.1).reads;
}

pub reads_batch : (fields : List FieldShape) (catalog : List (Option Coding)) (fs : List Field) (d : Data) (rows : ℕ) (vs : List Value) (cs : List Seen) (b : Batch) → option_and_then count_of (member_of member.Count d) ≡ Some rows
    → option_and_then as_array (member_of member.Columns d) ≡ Some (items_view vs) → length vs ≡ length fields → fields_of fs ≡ fields → HoldsColumns (fields_of fs) catalog rows (items_view vs) (length fs) cs
    → b.rows ≡ rows → b.columns ≡ cs → ReadsBatch fields catalog d (table_of b)
reads_batch fields catalog fs d rows vs cs b count listed len is columns at_rows at_columns =
    let t : ReadsBatch fields catalog d (record { rows = rows; columns = map (λ s. s.items) cs }) = record {
      count = count;
      found = items_view vs;
      listed = listed;
      whole = items_len-items_view vs ∙ len;
      columns = reads_columns fields catalog rows (items_view vs) (length fields) cs (whole_columns fields catalog fs rows (items_view vs) cs is columns);
    } in
    let same : record { rows = rows; columns = map (λ s. s.items) cs } ≡ table_of b =
    ap (λ n. record { rows = n; columns = map (λ s. s.items) cs }) (sym at_rows) ∙ ap (λ xs. record { rows = b.rows; columns = map (λ s. s.items) xs }) (sym at_columns) in
    subst (λ table. ReadsBatch fields catalog d table) same t

-- The members of a batch one after another, and the batch that they make.
use Rattle.std.proofs.Common.{◌≡◌, ◌≢◌, ◌∙◌, ℕ, zero, suc, ◌<◌, ◌≤◌, ◌==◌, nat_lt, List, [], ◌∷◌, length, map, true, false, not, Option, Some, None, option_map, option_and_then, Vec, Global, refl, sym, ap, subst, arith}
use Rattle.std.specs.List.{slice_get, zip, All}
use Rattle.std.proofs.lemmas.List.{length-map}
use Rattle.std.proofs.lemmas.Option.{slice_get-map, slice_get_within, get_or_from_slice_get}
use Rattle.std.proofs.lemmas.Bool.Decides.{nat_tests}
use Rattle.std.proofs.lemmas.Bool.{eq-eqb}
use Rattle.arrays.specs.Prelude.{Batch, FieldShape, Seen, batch_fault, differing_length, differing_type, kind_of_field, same_kind}
use Rattle.arrays.proofs.ListArrays.{same_kind-refl}
use Rattle.json_read.specs.Prelude.{Coding, Data, Members, ReadsBatch, ReadsColumns, ReadsTop, array, as_array, count_of, get_member, member_name, no_items, object, put, table_of}
use Rattle.json_read.specs.Members as member
use Rattle.json_read.proofs.MemberLaws.{slice_get_some}
use Rattle.json_read.proofs.JsonSchemas.{position-none}
use Rattle.json_scan.specs.Spelling.{before}
use Rattle.json_stream.specs.Prelude.{AreReadColumns, HasMembers, HoldsBatch, IsColumns, IsCountMember}
use Rattle.json_stream.specs.declared.batch.BatchMembers.{BatchMembers}
use Rattle.json_stream.specs.declared.batch.BatchParts.{BatchParts}
use Rattle.json_stream.proofs.SlotLemmas.{items_len-before, get_item-before}
use Rattle.json_stream.proofs.ColumnLemmas.{here, there, no_member}

-- ---- a member is taken

count_apart_columns : member_name member.Count ≢ member_name member.Columns
count_apart_columns e = absurd cc

module _ (fields : List FieldShape) (catalog : List (Option Coding)) (name : List ℕ) (d : Data) (ms : Members) (p : BatchParts) (h : HoldsBatch fields catalog ms p) where
  same_count : name ≢ member_name member.Count → IsCountMember (get_member (member_name member.Count) (put name d ms)) p.count
  same_count apart = subst (λ o. IsCountMember o p.count) (sym (there member.Count name d ms apart)) h.count

  same_columns : name ≢ member_name member.Columns → IsColumns fields catalog (get_member (member_name member.Columns) (put name d ms)) (option_map (λ v. v.items) p.columns)
  same_columns apart = subst (λ o. IsColumns fields catalog o (option_map (λ v. v.items) p.columns)) (sym (there member.Columns name d ms apart)) h.columns

  pub rows_taken : (n : ℕ) → name ≡ member_name member.Count → count_of d ≡ Some n → HoldsBatch fields catalog (put name d ms) (record p { count = Some n })
  rows_taken n e is = record { count = ap (option_and_then count_of) (here member.Count name d ms e) ∙ is; columns = same_columns (no_member member.Count member.Columns name e count_apart_columns) }

  pub columns_taken : (v : Vec Seen Global) (ds : List Data) → name ≡ member_name member.Columns → d ≡ array (before ds no_items) → AreReadColumns fields catalog ds v.items → HoldsBatch fields catalog (put name d ms) (record p { columns = Some v })
  columns_taken v ds e is columns = record { count = same_count (λ f. count_apart_columns (sym f ∙ e)); columns = (ds, here member.Columns name d ms e ∙ ap Some is, columns) }

  pub other_passed : name ≢ member_name member.Count → name ≢ member_name member.Columns → HoldsBatch fields catalog (put name d ms) p
  other_passed no_count no_columns = record { count = same_count no_count; columns = same_columns no_columns }

-- ---- the batch is lawful

both_at : {A B : Type 0} (xs : List A) (ys : List B) (i : ℕ) (p : A × B) → slice_get (zip xs ys) i ≡ Some p → (slice_get xs i ≡ Some p.0) × (slice_get ys i ≡ Some p.1)
both_at [] ys i p h = absurd cc
both_at (x ∷ xs) [] i p h = absurd cc
both_at (x ∷ xs) (y ∷ ys) zero p h =
    let e : (x, y) ≡ p = cc in
    (ap (λ q. Some q.0) e, ap (λ q. Some q.1) e)
both_at (x ∷ xs) (y ∷ ys) (suc i) p h = both_at xs ys i p h

length_at : (columns : List Seen) (rows : ℕ) (i : ℕ) (s : Seen) → All (λ s. length s.items ≡ rows) columns → slice_get columns i ≡ Some s → length s.items ≡ rows
length_at columns rows i s even at = sym (ap (λ (t : Seen). length t.items) (get_or_from_slice_get columns i s s at)) ∙ even i s (slice_get_within columns i s at)

pub lawful_batch : (fields : List FieldShape) (catalog : List (Option Coding)) (ds : List Data) (columns : List Seen) (rows : ℕ) → AreReadColumns fields catalog ds columns → length columns ≡ length fields → All (λ s. length s.items ≡ rows) columns → rows ≤ 2147483647
    → batch_fault fields rows columns ≡ None
lawful_batch fields catalog ds columns rows h len even small =
    let types : differing_type fields columns ≡ None =
    position-none (λ p. not (same_kind p.0.kind (kind_of_field p.1))) (zip columns fields)
    (λ i p at.
    let both = both_at columns fields i p at in
    let within : i < length ds = omega (arith, slice_get_within columns i p.0 both.0, h.len) in
    let d = slice_get_some ds i within in
    let c = slice_get_some catalog i (omega (arith, within, h.coded)) in
    ap (λ k. not (same_kind k (kind_of_field p.1))) (h.each i p.1 c.0 d.0 p.0 both.1 c.1 d.1 both.0).kind ∙ ap not (same_kind-refl (kind_of_field p.1))) in
    let lengths : differing_length rows columns ≡ None = position-none (λ s. not (length s.items == rows)) columns (λ i s at. ap not (eq-eqb (length s.items) rows (length_at columns rows i s even at))) in
    let count : (length columns == length fields) ≡ true = eq-eqb (length columns) (length fields) len in
    let short : nat_lt 2147483647 rows ≡ false = grind (arith, nat_tests) in
    rw (count, types, short, lengths) refl

-- ---- and it is that of the members

some_under : {A B : Type 0} (f : A → B) (o : Option A) (y : B) → option_map f o ≡ Some y → (x : A) × (o ≡ Some x) × (f x ≡ y)
some_under f None y h = absurd cc
some_under f (Some x) y h = (x, refl, cc)

pub columns_read : (fields : List FieldShape) (catalog : List (Option Coding)) (ds : List Data) (columns : List Seen) (rows : ℕ) → AreReadColumns fields catalog ds columns → length columns ≡ length fields → All (λ s. length s.items ≡ rows) columns
    → ReadsColumns fields catalog rows (before ds no_items) (length fields) (map (λ s. s.items) columns)
columns_read fields catalog ds columns rows h len even = record {
  len = length-map columns _ ∙ len;
  each = λ i f c d items field coding found got.
      let s = some_under (λ (s : Seen). s.items) (slice_get columns i) items (sym (slice_get-map (λ s. s.items) columns i) ∙ got) in
      let column = h.each i f c d s.0 field coding (sym (get_item-before ds i) ∙ found) s.1 in
      let read : ReadsTop (kind_of_field f) c rows d s.0.items = subst (λ n. ReadsTop (kind_of_field f) c n d s.0.items) (length_at columns rows i s.0 even s.1) column.reads in
      subst (λ xs. ReadsTop (kind_of_field f) c rows d xs) s.2 read;
}

pub members_known : (fields : List FieldShape) (catalog : List (Option Coding)) (ms : Members) (p : BatchParts) (rows : ℕ) (v : Vec Seen Global) → HoldsBatch fields catalog ms p → p.count ≡ Some rows → p.columns ≡ Some v
    → HasMembers fields catalog ms (record { count = rows; columns = v })
members_known fields catalog ms p rows v h count is =
    let columns = subst (λ o. IsColumns fields catalog (get_member (member_name member.Columns) ms) (option_map (λ w. w.items) o)) is h.columns in
    record { count = subst (IsCountMember (get_member (member_name member.Count) ms)) count h.count; values = columns.0; listed = columns.1; read = columns.2 }

pub batch_read : (fields gs : List FieldShape) (catalog : List (Option Coding)) (ms : Members) (m : BatchMembers) (b : Batch) → gs ≡ fields → HasMembers gs catalog ms m
    → b.rows ≡ m.count → b.columns ≡ m.columns.items → length b.columns ≡ length fields → All (λ (s : Seen). length s.items ≡ m.count) b.columns → ReadsBatch fields catalog (object ms) (table_of b)
batch_read fields gs catalog ms m b same h at_rows at_columns len even =
    let held = subst (λ fs. HasMembers fs catalog ms m) same h in
    let ds = held.values in
    let are : AreReadColumns fields catalog ds b.columns = subst (AreReadColumns fields catalog ds) (sym at_columns) held.read in
    record {
      count = held.count ∙ ap Some (sym at_rows);
      found = before ds no_items;
      listed = ap (option_and_then as_array) held.listed;
      whole = items_len-before ds ∙ (sym are.len ∙ len);
      columns = subst (λ n. ReadsColumns fields catalog n (before ds no_items) (length fields) (map (λ (s : Seen). s.items) b.columns)) (sym at_rows) (columns_read fields catalog ds b.columns m.count are len even);
    }

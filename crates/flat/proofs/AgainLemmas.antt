-- What is lent of a batch is read as that batch.
use Rattle.std.proofs.Common.{◌≡◌, ◌∙◌, ◌⊎◌, ◌+◌, ◌*◌, ◌/◌, ◌<◌, ◌≤◌, ◌++◌, ◌&&◌, ◌||◌, ℕ, zero, suc, ℤ, pos, negsuc, int_lt, nat_lt, Bool, true, false, not, cond, List, [], ◌∷◌, map, length, Option, Some, None, option_map, slice_index_or, unwrap_or, ap, inl, inr, refl, sym, subst, arith, ltb-false, length-append}
use Rattle.std.specs.List.{flat_map, range_with_len}
use Rattle.std.proofs.lemmas.Bool.Decides.{nat_tests}
use Rattle.types.proofs.EncodingLemmas.{length-bytes_of_number, number_at-append-end, number_at-append-front}
use Rattle.types.proofs.RangeLemmas.{IsOfType-from_test}
use Rattle.layout.specs.Layout.{buffer_at, column}
use Rattle.layout.specs.Fault.{is_no_code}
use Rattle.layout.proofs.FirstFaultLemmas.{IsWhole, own_fault-none}
use Rattle.layout.proofs.LawfulLemmas.{first-parts}
use Rattle.layout.proofs.OffsetLemmas.{fails-least_none}
use Rattle.layout.proofs.SeenLemmas.{length-items}
use Rattle.arrays.specs.Prelude.{Batch, Buffers, FieldShape, IntType, IsOfType, Item, Kind, Reading, Seen, bytes_at, bytes_for, bytes_of_number, checked_texts, child_fault, inner_of, int32, is_negative, is_of_type, is_valid_in, is_validity_short, kind_of_field, most_slots, natural, Narrow, null, number_at, OffsetWidth, read_parts, row_of, rows_of}
use Rattle.arrays.specs.Kind as kind
use Rattle.flat.specs.Content.{content_of}
use Rattle.flat.specs.Parts.{buffers_given, code, code_bytes, codes_of, read_codes, read_node, validity_given}
use Rattle.flat.specs.Prelude.{IsBatchOf, IsColumn, IsOver, Lends, LendsColumn, LendsColumns, Takes, most_levels, read_column, stated}
use Rattle.flat.specs.declared.content.Content.TheVariants as content
use Rattle.flat.specs.declared.node.Node.{Node}
use Rattle.flat.proofs.CodeLemmas.{flat_map_range_more}
use Rattle.flat.proofs.UniqueLemmas.{begins_one, none_begins}

-- ---- lists by their places

same_from : {A : Type 0} (f g : ℕ → A) (a n : ℕ) → ((k : ℕ) → k < n → f (a + k) ≡ g (a + k)) → map f (range_with_len a n) ≡ map g (range_with_len a n)
same_from f g a zero same = refl
same_from f g a (suc n) same =
    let here : f a ≡ g a = ap f (omega arith) ∙ same 0 (omega arith) ∙ ap g (omega arith) in
    let more = same_from f g (a + 1) n (λ k below. ap f (omega arith) ∙ same (suc k) (omega arith) ∙ ap g (omega arith)) in
    ap (λ x. x ∷ map f (range_with_len (a + 1) n)) here ∙ ap (λ xs. g a ∷ xs) more

same_below : {A : Type 0} (f g : ℕ → A) (n : ℕ) → ((k : ℕ) → k < n → f k ≡ g k) → map f (range_with_len 0 n) ≡ map g (range_with_len 0 n)
same_below f g n same = same_from f g 0 n (λ k below. ap f (omega arith) ∙ same k below ∙ ap g (omega arith))

-- ---- parts without a fault

-- An array that is read without a fault, and what lies in it.
record IsLawful (k : Kind) (n : ℕ) (given : Option ℕ) (buffers : Buffers) (children : List Reading) (dictionary : Option Reading) : Type 0 where
  whole : IsWhole k n given buffers (map inner_of children) (option_map inner_of dictionary)
  child : child_fault children ≡ None

lawful_parts : (k : Kind) (n : ℕ) (given : Option ℕ) (buffers : Buffers) (children : List Reading) (dictionary : Option Reading) (r : Reading)
    → r ≡ read_parts k n given buffers children dictionary → r.fault ≡ None → IsLawful k n given buffers children dictionary
unfolding read_parts
lawful_parts k n given buffers children dictionary r is lawful =
    let none = first-parts _ _ (sym (ap (λ (q : Reading). q.fault) is) ∙ lawful) in
    record {
      whole = own_fault-none k n given buffers (map inner_of children) (option_map inner_of dictionary) none.0;
      child = (first-parts _ _ none.1).0;
    }

-- ---- buffers

-- The buffers that a layout names, by their bytes.
abbrev named : Kind → Option (List ℕ) → List ℕ → List ℕ → Buffers
named (kind.texts w) validity first second = validity ∷ Some first ∷ Some second ∷ []
named k validity first second = validity ∷ Some first ∷ []

named_by : (k : Kind) (n : Node) → named k (validity_given n.validity.now) n.first.now n.second.now ≡ buffers_given k n
named_by (kind.int t) n = refl
named_by kind.boolean n = refl
named_by (kind.texts w) n = refl
named_by (kind.lists w k) n = refl
named_by kind.dict n = refl

-- an array shows what lies in these
by_bytes : (k : Kind) (n : ℕ) (b : Buffers) (child entries : List Item) → column k n b child entries ≡ column k n (named k (buffer_at b 0) (bytes_at b 1) (bytes_at b 2)) child entries
unfolding column
by_bytes (kind.int t) n b child entries = refl
by_bytes kind.boolean n b child entries = refl
by_bytes (kind.texts w) n b child entries = refl
by_bytes (kind.lists w k) n b child entries = refl
by_bytes kind.dict n b child entries = refl

-- a validity of no bytes is one of no slots
no_slots : (n : ℕ) (v : Option (List ℕ)) → is_validity_short n v ≡ false → (v ≡ validity_given (unwrap_or v [])) ⊎ (n ≡ 0)
no_slots n None h = inl refl
no_slots n (Some []) h = inr (omega (arith, ltb-false 0 (bytes_for n) h))
no_slots n (Some (b ∷ bs)) h = inl refl

validity_again : (k : Kind) (n : ℕ) (v : Option (List ℕ)) (first second : List ℕ) (child entries : List Item) → is_validity_short n v ≡ false
    → column k n (named k v first second) child entries ≡ column k n (named k (validity_given (unwrap_or v [])) first second) child entries
unfolding column
validity_again k n v first second child entries enough =
    let read = validity_given (unwrap_or v []) in
    elim (no_slots n v enough) [
      | inl same ↦ ap (λ u. column k n (named k u first second) child entries) same
      | inr none ↦ ap (λ m. column k m (named k v first second) child entries) none ∙ sym (ap (λ m. column k m (named k read first second) child entries) none)
    ]

-- a node over buffers is read as they are
over_again : (k : Kind) (n : Node) (children : List Reading) (dictionary : Option Reading) (r : Reading) (o : IsOver k n children dictionary r) (child entries : List Item) → r.fault ≡ None
    → column k n.length o.buffers child entries ≡ column k n.length (buffers_given k n) child entries
over_again k n children dictionary r o child entries lawful =
    let b = o.buffers in
    let v = buffer_at b 0 in
    let l = lawful_parts k n.length (stated n.null_count) b children dictionary r o.is lawful in
    by_bytes k n.length b child entries
    ∙ validity_again k n.length v (bytes_at b 1) (bytes_at b 2) child entries l.whole.validity_enough
    ∙ ap (λ u. column k n.length (named k (validity_given u) (bytes_at b 1) (bytes_at b 2)) child entries) (sym o.validity)
    ∙ ap (λ u. column k n.length (named k (validity_given n.validity.now) u (bytes_at b 2)) child entries) (sym o.first)
    ∙ ap (λ u. column k n.length (named k (validity_given n.validity.now) n.first.now u) child entries) (sym o.second)
    ∙ ap (λ u. column k n.length u child entries) (named_by k n)

-- ---- indices

code_of_type : (z : ℤ) → IsOfType int32 (code z)
code_of_type z = IsOfType-from_test int32 (code z) (code_within (is_of_type int32 z) z refl) where
  code_within : (b : Bool) (z : ℤ) → is_of_type int32 z ≡ b → is_of_type int32 (cond b z (negsuc 0)) ≡ true
  code_within true z h = h
  code_within false z h = refl

-- an index that names an entry is its own code
names_code : (z : ℤ) (count : ℕ) → (is_negative z || not (int_lt z (pos count))) ≡ false → count ≤ most_slots → code z ≡ z
names_code (negsuc m) count h few = cc
names_code (pos m) count h few = ap (λ b. cond b (pos m) (negsuc 0)) (small_code m count (below_count m count h) few) where
  below_count : (m count : ℕ) → (is_negative (pos m) || not (int_lt (pos m) (pos count))) ≡ false → m < count
  below_count m count h = grind (arith, nat_tests)

  small_code : (m count : ℕ) → m < count → count ≤ most_slots → is_of_type int32 (pos m) ≡ true
  small_code m count below few = grind (arith, nat_tests, below, few)

-- the bytes of so many codes
codes_front : (g : ℕ → ℤ) → ℕ → List ℕ
codes_front g m = flat_map (λ j. bytes_of_number int32 (g j)) (range_with_len 0 m)

front_more : (g : ℕ → ℤ) (m : ℕ) → codes_front g (suc m) ≡ codes_front g m ++ bytes_of_number int32 (g m)
unfolding codes_front
front_more g m =
    let next : suc m ≡ m + 1 = omega arith in
    ap (λ k. flat_map (λ j. bytes_of_number int32 (g j)) (range_with_len 0 k)) next ∙ flat_map_range_more (λ j. bytes_of_number int32 (g j)) 0 m m (omega arith)

length-front : (g : ℕ → ℤ) (m : ℕ) → length (codes_front g m) ≡ m * 4
unfolding codes_front
length-front g zero = refl
length-front g (suc m) =
    ap (λ (xs : List ℕ). length xs) (front_more g m) ∙ length-append (codes_front g m) (bytes_of_number int32 (g m))
    ∙ (omega (arith, length-front g m, length-bytes_of_number int32 (g m)))

front_at : (g : ℕ → ℤ) (m j : ℕ) → ((k : ℕ) → IsOfType int32 (g k)) → j < m → number_at int32 (codes_front g m) j ≡ g j
front_at g zero j of below = absurd (omega (arith, below))
front_at g (suc m) j of below =
    ap (λ xs. number_at int32 xs j) (front_more g m)
    ∙ elim (split j m below) [
      | inl before ↦ number_at-append-front int32 (codes_front g m) (bytes_of_number int32 (g m)) j (omega (arith, before, length-front g m)) ∙ front_at g m j of before
      | inr last ↦ ap (number_at int32 (codes_front g m ++ bytes_of_number int32 (g m))) last ∙ number_at-append-end int32 (codes_front g m) (g m) m (omega (arith, length-front g m)) (of m) ∙ ap g (sym last)
    ] where
      split : (j m : ℕ) → j < suc m → (j < m) ⊎ (j ≡ m)
      split j m below = by_test (nat_lt j m) refl where
        by_test : (b : Bool) → nat_lt j m ≡ b → (j < m) ⊎ (j ≡ m)
        by_test true h = inl (grind (arith, nat_tests, h))
        by_test false h = inr (grind (arith, nat_tests, h, below))

-- each index that is there is a code
code_read : (bytes : List ℕ) (n j : ℕ) → j < n → nat_lt (length bytes) (n * 4) ≡ false → number_at int32 (code_bytes int32 bytes) j ≡ code (number_at int32 bytes j)
unfolding code_bytes codes_front
code_read bytes n j below enough =
    front_at (λ k. code (number_at int32 bytes k)) (length bytes / 4) j (λ k. code_of_type (number_at int32 bytes k)) (omega (arith, below, ltb-false (length bytes) (n * 4) enough))

-- the codes of indices show what the indices do
codes_again : (n count : ℕ) (v : Option (List ℕ)) (bytes : List ℕ) (entries : List Item) → count ≤ most_slots → nat_lt (length bytes) (n * 4) ≡ false
    → ((j : ℕ) → j < n → is_no_code (v ∷ Some bytes ∷ []) count j ≡ false)
    → column kind.dict n (v ∷ Some bytes ∷ []) [] entries ≡ column kind.dict n (v ∷ Some (code_bytes int32 bytes) ∷ []) [] entries
unfolding column
codes_again n count v bytes entries few enough named =
    same_below _ _ n (λ j below.
    by_validity (is_valid_in v j) j below (named j below))
  where
    by_validity : (b : Bool) (j : ℕ) → j < n → (b && (is_negative (number_at int32 bytes j) || not (int_lt (number_at int32 bytes j) (pos count)))) ≡ false
        → cond b (slice_index_or entries (natural (number_at int32 bytes j)) null) null ≡ cond b (slice_index_or entries (natural (number_at int32 (code_bytes int32 bytes) j)) null) null
    by_validity false j below h = refl
    by_validity true j below h =
        ap (λ z. slice_index_or entries (natural z) null) (sym (code_read bytes n j below enough ∙ names_code (number_at int32 bytes j) count h few))

-- ---- columns

-- Nodes are read as what shows these items.
abbrev IsReadAs : Kind → List Node → List Item → Type 0
IsReadAs k [] items = ⊥
IsReadAs k (n ∷ behind) items = (read_column k n behind).seen.items ≡ items

numbers_again : (t : IntType) (n : Node) (r : Reading) → IsOver (kind.int t) n [] None r → r.fault ≡ None → (read_node (kind.int t) n []).seen.items ≡ r.seen.items
unfolding read_parts
numbers_again t n r o lawful = sym (ap (λ (q : Reading). q.seen.items) o.is ∙ over_again (kind.int t) n [] None r o [] [] lawful)

truths_again : (n : Node) (r : Reading) → IsOver kind.boolean n [] None r → r.fault ≡ None → (read_node kind.boolean n []).seen.items ≡ r.seen.items
unfolding read_parts
truths_again n r o lawful = sym (ap (λ (q : Reading). q.seen.items) o.is ∙ over_again kind.boolean n [] None r o [] [] lawful)

texts_again : (w : OffsetWidth) (n : Node) (r : Reading) → IsOver (kind.texts w) n [] None r → r.fault ≡ None → (read_node (kind.texts w) n []).seen.items ≡ r.seen.items
unfolding read_parts
texts_again w n r o lawful = sym (ap (λ (q : Reading). q.seen.items) o.is ∙ over_again (kind.texts w) n [] None r o [] [] lawful)

lists_again : (w : OffsetWidth) (k : Kind) (n : Node) (item read r : Reading) → IsOver (kind.lists w k) n (item ∷ []) None r → r.fault ≡ None → read.seen.items ≡ item.seen.items
    → (read_node (kind.lists w k) n (read ∷ [])).seen.items ≡ r.seen.items
unfolding read_parts
lists_again w k n item read r o lawful same =
    ap (λ items. column (kind.lists w k) n.length (buffers_given (kind.lists w k) n) items []) same
    ∙ sym (ap (λ (q : Reading). q.seen.items) o.is ∙ over_again (kind.lists w k) n (item ∷ []) None r o item.seen.items [] lawful)

-- indices over texts that are lent
dict_again : (n t : Node) (texts r : Reading) → content_of n ≡ Some (content.Codes int32) → texts.fault ≡ None → IsOver kind.utf8 t [] None texts → IsOver kind.dict n [] (Some (checked_texts texts.seen)) r
    → r.fault ≡ None → (read_codes n (Some (read_node kind.utf8 t []))).seen.items ≡ r.seen.items
unfolding read_parts
dict_again n t texts r indices lawful_texts ot o lawful =
    let b = o.buffers in
    let v = buffer_at b 0 in
    let f = bytes_at b 1 in
    let entries = texts.seen.items in
    let shown = column kind.dict n.length in
    let w = (lawful_parts kind.dict n.length (stated n.null_count) b [] (Some (checked_texts texts.seen)) r o.is lawful).whole in
    let short = (lawful_parts kind.utf8 t.length (stated t.null_count) ot.buffers [] None texts ot.is lawful_texts).whole.short in
    let long : length entries ≡ t.length = ap (λ (q : Reading). length q.seen.items) ot.is ∙ length-items kind.utf8 t.length (stated t.null_count) ot.buffers [] None in
    let few : length entries ≤ most_slots = omega (arith, ltb-false most_slots t.length short, long) in
    sym (
    ap (λ (q : Reading). q.seen.items) o.is
    ∙ by_bytes kind.dict n.length b [] entries
    ∙ codes_again n.length (length entries) v f entries few w.data_enough (fails-least_none (is_no_code b (length entries)) n.length w.all_codes)
    ∙ validity_again kind.dict n.length v (code_bytes int32 f) [] [] entries w.validity_enough
    ∙ ap (λ u. shown (validity_given u ∷ Some (code_bytes int32 f) ∷ []) [] entries) (sym o.validity)
    ∙ ap (λ u. shown (validity_given n.validity.now ∷ Some (code_bytes int32 u) ∷ []) [] entries) (sym o.first)
    ∙ ap (λ c. shown (validity_given n.validity.now ∷ Some (codes_of c n.first.now) ∷ []) [] entries) (sym indices)
    ∙ ap (λ es. shown (validity_given n.validity.now ∷ Some (codes_of (content_of n) n.first.now) ∷ []) [] es) (sym (texts_again Narrow t texts ot lawful_texts))
    )

lends_again : (k : Kind) (nodes : List Node) (r : Reading) → Lends k nodes r → r.fault ≡ None → IsReadAs k nodes r.seen.items
lends_again k [] r lends lawful = lends
lends_again (kind.int t) (n ∷ behind) r lends lawful = numbers_again t n r lends lawful
lends_again kind.boolean (n ∷ behind) r lends lawful = truths_again n r lends lawful
lends_again (kind.texts w) (n ∷ behind) r lends lawful = texts_again w n r lends lawful
lends_again (kind.lists w k) (n ∷ []) r lends lawful = absurd lends.1
lends_again (kind.lists w k) (n ∷ m ∷ behind) r lends lawful =
    let o = lends.2 in
    let l = lawful_parts (kind.lists w k) n.length (stated n.null_count) o.buffers (lends.0 ∷ []) None r o.is lawful in
    lists_again w k n lends.0 (read_column k m behind) r o lawful (lends_again k (m ∷ behind) lends.0 lends.1 l.child)
lends_again kind.dict (n ∷ []) r lends lawful = absurd lends
lends_again kind.dict (n ∷ t ∷ behind) r lends lawful = dict_again n t lends.1 r lends.0.indices lends.2 lends.3 lends.4 lawful

column_again : (nodes : List Node) (f g : FieldShape) (s t : Seen) → f ≡ g → LendsColumn (kind_of_field f) nodes s → IsColumn nodes g t → t.items ≡ s.items
column_again [] f g s t same lent read = absurd read
column_again (n ∷ behind) f g s t same lent read =
    ap (λ (x : Seen). x.items) read.1 ∙ ap (λ h. (read_column (kind_of_field h) n behind).seen.items) (sym same)
    ∙ lends_again (kind_of_field f) (n ∷ behind) lent.parts lent.lends lent.lawful ∙ ap (λ (x : Seen). x.items) lent.shows

-- ---- batches

abbrev all_items : List Seen → List (List Item)
all_items columns = map (λ (s : Seen). s.items) columns

columns_again : (nodes : List Node) (fs gs : List FieldShape) (ss ts : List Seen) → LendsColumns nodes fs ss [] → Takes nodes gs ts [] → (gs ≡ fs) × (all_items ts ≡ all_items ss)
columns_again nodes [] [] [] [] lent read = (refl, refl)
columns_again nodes [] [] [] (t ∷ ts) lent read = absurd read
columns_again nodes [] (g ∷ gs) [] [] lent read = absurd read
columns_again nodes [] (g ∷ gs) [] (t ∷ ts) lent read = absurd (none_begins most_levels nodes g read.0 lent read.1)
columns_again nodes [] gs (s ∷ ss) ts lent read = absurd lent
columns_again nodes (f ∷ fs) gs [] ts lent read = absurd lent
columns_again nodes (f ∷ fs) [] (s ∷ ss) [] lent read = absurd (none_begins most_levels nodes f lent.0 read lent.1)
columns_again nodes (f ∷ fs) [] (s ∷ ss) (t ∷ ts) lent read = absurd read
columns_again nodes (f ∷ fs) (g ∷ gs) (s ∷ ss) [] lent read = absurd read
columns_again nodes (f ∷ fs) (g ∷ gs) (s ∷ ss) (t ∷ ts) lent read =
    let here = begins_one most_levels nodes f g lent.0 read.0 lent.1 read.1 in
    let more = columns_again lent.0 fs gs ss ts lent.3 (subst (λ (l : List Node). Takes l gs ts []) (sym here.1) read.3) in
    let items = column_again nodes f g s t here.0 lent.2 read.2 in
    (ap (λ h. h ∷ gs) (sym here.0) ∙ ap (λ hs. f ∷ hs) more.0, ap (λ x. x ∷ all_items ts) items ∙ ap (λ xs. s.items ∷ xs) more.1)

-- a row is of its columns' items
row_by_items : (columns : List Seen) (i : ℕ) → row_of columns i ≡ map (λ items. slice_index_or items i null) (all_items columns)
row_by_items [] i = refl
row_by_items (c ∷ cs) i = ap (λ xs. slice_index_or c.items i null ∷ xs) (row_by_items cs i)

pub batch_again : (nodes : List Node) (b c : Batch) → LendsColumns nodes b.fields b.columns [] → IsBatchOf b.rows nodes c → (c.fields ≡ b.fields) × (rows_of c ≡ rows_of b)
batch_again nodes b c lent read =
    let columns = columns_again nodes b.fields c.fields b.columns c.columns lent read.columns in (
      columns.0,
      ap (λ n. map (row_of c.columns) (range_with_len 0 n)) read.long
          ∙ same_below (row_of c.columns) (row_of b.columns) b.rows (λ i below.
          row_by_items c.columns i ∙ ap (λ all. map (λ items. slice_index_or items i null) all) columns.1 ∙ sym (row_by_items b.columns i)),
    )

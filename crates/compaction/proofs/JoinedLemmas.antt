-- The batch that several batches make.
use Rattle.std.proofs.Common.{◌≡◌, ◌∙◌, ℕ, zero, suc, ◌+◌, ◌≤◌, ◌<◌, ◌||◌, ◌&&◌, List, [], ◌∷◌, ◌++◌, length, map, take, All, Bool, true, false, not, cond, eqb, length-append, Option, None, Some, option_map, get_or, ap, sym, refl, subst, arith, eq-eqb}
use Rattle.std.specs.Prelude.{is_some, slice_index_or}
use Rattle.std.specs.Arc.{arc_value}
use Rattle.std.specs.declared.alloc.Global.{Global}
use Rattle.std.specs.declared.sync.Arc.{Arc}
use Rattle.std.specs.List.{AllZip, enumerate_from, list_all, list_any, range_with_len, zip}
use mathlib.Core.List.{IsPrefix}
use Rattle.std.proofs.lemmas.List.{append-nil, ext_get_or, get_or-map, get_or_default, length-map, nil_from_length, take_all, take_more}
use Rattle.std.proofs.lemmas.Bool.{and_parts, eqb-true}
use Rattle.std.proofs.lemmas.List.Elements.{All-append, All-cons, All-head, All-map, All-nil, All-tail}
use Rattle.std.proofs.lemmas.List.Folds.{list_all_at, list_all_more, list_any_at}
use Rattle.std.proofs.lemmas.List.FromFn.{get_or-map-range_with_len, length-map-range_with_len, length-enumerate_from}
use Rattle.std.proofs.lemmas.Slice.Zip.{AllZip-long, get_or-zip, length-zip}
use Rattle.arrays.proofs.ListArrays.{same_kind-refl}
use Rattle.arrays.specs.Prelude.{Batch, FieldShape, Item, Kind, Row, Seen, Table, batch_fault, column, is_past, is_too_big, joined_items, kind_of_field, null, over, row_of, rows_of, same_kind}
use Rattle.arrays.specs.Kind as kind
use Rattle.arrays.proofs.BatchLemmas.{length-rows_of, row-item, wrong_kind, whole, faultless, column-is, column-append, length-column}
use Rattle.group.proofs.ColumnsLemmas.{all_zip-more, all_zip-push}
use Rattle.select.specs.Joined.{kind_of_first}
use Rattle.compaction.specs.Prelude.{AreJoinable, IsBatchOf, IsColumnOf, IsDictionary, IsJoined, IsOver, IsUnder, NamesFront, NamesWhole, are_as_long, entry_count, is_as_long, is_big, together}
use Rattle.compaction.proofs.BatchLemmas.{count-of, kind-at}
use Rattle.compaction.proofs.FitLemmas.{big-any, is_big_at}
use Rattle.compaction.proofs.FrontLemmas.{any_field, enumerated-at}

-- ---- lists side by side

pub all_zip-at : {A B : Type 0} (R : A → B → Type 0) (xs : List A) (ys : List B) (k : ℕ) (d : A) (e : B) → AllZip R xs ys → k < length xs → R (get_or xs k d) (get_or ys k e)
all_zip-at R [] ys k d e all below = absurd (omega (arith, below))
all_zip-at R (x ∷ xs) [] k d e all below = absurd all
all_zip-at R (x ∷ xs) (y ∷ ys) zero d e all below = all.0
all_zip-at R (x ∷ xs) (y ∷ ys) (suc k) d e all below = all_zip-at R xs ys k d e all.1 (omega (arith, below))

-- what follows for each on the right from what holds on the left
pub all_zip-all : {A B : Type 0} (R : A → B → Type 0) (P : A → Type 0) (Q : B → Type 0) → ((x : A) (y : B) → P x → R x y → Q y) → (xs : List A) (ys : List B) → AllZip R xs ys → All P xs → All Q ys
all_zip-all R P Q follows [] [] all each = All-nil Q
all_zip-all R P Q follows [] (y ∷ ys) all each = absurd all
all_zip-all R P Q follows (x ∷ xs) [] all each = absurd all
all_zip-all R P Q follows (x ∷ xs) (y ∷ ys) all each =
    All-cons Q y ys (follows x y (All-head P x xs each) all.0) (all_zip-all R P Q follows xs ys all.1 (All-tail P x xs each))

-- ---- one column

pub columns-joined : (k : ℕ) (batches : List Batch) (views : List Seen) → AllZip (IsColumnOf k) batches views → joined_items views ≡ column (together (map rows_of batches)) k
columns-joined k [] [] all = refl
columns-joined k [] (v ∷ views) all = absurd all
columns-joined k (b ∷ batches) [] all = absurd all
columns-joined k (b ∷ batches) (v ∷ views) all =
    ap (λ l. l ++ joined_items views) all.0.items
    ∙ ap (λ l. column (rows_of b) k ++ l) (columns-joined k batches views all.1)
    ∙ sym (column-append (rows_of b) (together (map rows_of batches)) k)

-- no column is too big
pub fits-at-column : (fields : List FieldShape) (t : Table) (k : ℕ) (f : FieldShape) → is_big fields t ≡ false → k < length fields → is_too_big (kind_of_field (get_or fields k f)) (column t k) ≡ false
fits-at-column fields t k f fits below =
    let es = enumerate_from 0 fields in
    either (is_too_big (kind_of_field (get_or fields k f)) (column t k))
    (λ big.
    let there = list_any_at (is_big_at t) es k (k, f) (omega (arith, below, length-enumerate_from 0 fields)) (ap (is_big_at t) (enumerated-at fields k f below) ∙ big) in
    sym there ∙ sym (big-any fields t) ∙ fits)
  where
    either : (b : Bool) → (b ≡ true → true ≡ false) → b ≡ false
    either true h = h refl
    either false h = refl

pub batch-of : (fields : List FieldShape) (dictionaries : List (Option Seen)) (b : Batch) → IsUnder fields dictionaries b → IsBatchOf fields b
batch-of fields dictionaries b is = record { same = is.same; lawful = is.lawful }

pub batches-of : (fields : List FieldShape) (dictionaries : List (Option Seen)) (batches : List Batch) → All (IsUnder fields dictionaries) batches → All (IsBatchOf fields) batches
batches-of fields dictionaries batches all k d below = batch-of fields dictionaries (get_or batches k d) (all k d below)

encoded-as : (f : FieldShape) (o : Option Seen) → IsDictionary f o → is_some o ≡ same_kind (kind_of_field f) kind.dict
encoded-as f None is = sym is
encoded-as f (Some d) is = sym is.0

first-of : (k : Kind) (views : List Seen) → 1 ≤ length views → All (λ (c : Seen). c.kind ≡ k) views → kind_of_first views ≡ k
first-of k [] some all = absurd (omega (arith, some))
first-of k (v ∷ views) some all = All-head (λ (c : Seen). c.kind ≡ k) v views all

-- the kind of the views
pub kinds-views : (fields : List FieldShape) (dictionaries : List (Option Seen)) (batches : List Batch) (views : List Seen) (k : ℕ) → k < length fields → All (IsUnder fields dictionaries) batches
    → AllZip (IsColumnOf k) batches views → All (λ (c : Seen). c.kind ≡ kind_of_field (get_or fields k any_field)) views
kinds-views fields dictionaries batches views k below under all =
    all_zip-all (IsColumnOf k) (IsUnder fields dictionaries) (λ (c : Seen). c.kind ≡ kind_of_field (get_or fields k any_field))
    (λ b c is of. ap (λ (s : Seen). s.kind) of.at ∙ kind-at fields b k any_field (batch-of fields dictionaries b is) below c)
    batches views all under

pub joinable : (fields : List FieldShape) (dictionaries : List (Option Seen)) (batches : List Batch) (views : List Seen) (k : ℕ) (o : Option Seen) → k < length fields → 1 ≤ length batches
    → AllZip IsDictionary fields dictionaries → All (IsUnder fields dictionaries) batches → AllZip (IsColumnOf k) batches views → o ≡ get_or dictionaries k o
    → is_past (length (together (map rows_of batches))) ≡ false → is_big fields (together (map rows_of batches)) ≡ false → AreJoinable o views
joinable fields dictionaries batches views k o below some are under all at few fits =
    let t = together (map rows_of batches) in
    let kf = kind_of_field (get_or fields k any_field) in
    let items = columns-joined k batches views all in
    let many : 1 ≤ length views = omega (arith, some, AllZip-long (IsColumnOf k) batches views all) in
    let kinds = kinds-views fields dictionaries batches views k below under all in
    let first = first-of kf views many kinds in
    record {
      some = many;
      kinds = λ i d within. kinds i d within ∙ sym first;
      encoded = encoded-as (get_or fields k any_field) o (subst (IsDictionary (get_or fields k any_field)) (sym at) (all_zip-at IsDictionary fields dictionaries k any_field o are below)) ∙ ap (λ j. same_kind j kind.dict) (sym first);
      fronts =
          all_zip-all (IsColumnOf k) (IsUnder fields dictionaries) (λ c. NamesFront c o)
          (λ b c is of.
          subst (λ s. NamesFront s o) (sym of.at)
          (subst (NamesFront (get_or b.columns k c)) (sym at) (all_zip-at NamesFront b.columns dictionaries k c o is.fronts (omega (arith, below, count-of fields b (batch-of fields dictionaries b is))))))
          batches views all under;
      few = ap (λ (l : List Item). is_past (length l)) items ∙ ap is_past (length-column t k) ∙ few;
      fits = ap (λ j. is_too_big j (joined_items views)) first ∙ ap (is_too_big kf) items ∙ fits-at-column fields t k any_field fits below;
    }

-- ---- all columns

-- The column is that of the table at the place, and of the field's kind.
pub record IsColumn (t : Table) (e : ℕ × FieldShape) (c : Seen) : Type 0 where
  pub kind : c.kind ≡ kind_of_field e.1
  pub items : c.items ≡ column t e.0

pub column-made : (fields : List FieldShape) (dictionaries : List (Option Seen)) (batches : List Batch) (views : List Seen) (k : ℕ) (o : Option Seen) (c : Seen) → k < length fields
    → All (IsUnder fields dictionaries) batches → AllZip (IsColumnOf k) batches views → 1 ≤ length views → IsJoined o views c
    → IsColumn (together (map rows_of batches)) (k, get_or fields k any_field) c
column-made fields dictionaries batches views k o c below under all many is = record {
  kind = is.kind ∙ first-of (kind_of_field (get_or fields k any_field)) views many (kinds-views fields dictionaries batches views k below under all);
  items = is.items ∙ columns-joined k batches views all;
}

pub columns-more : (fields : List FieldShape) (t : Table) (k : ℕ) (c : Seen) (old new : List Seen) → k < length fields → AllZip (IsColumn t) (take k (enumerate_from 0 fields)) old
    → IsColumn t (k, get_or fields k any_field) c → new ≡ old ++ c ∷ [] → AllZip (IsColumn t) (take (k + 1) (enumerate_from 0 fields)) new
columns-more fields t k c old new below all is pushed =
    let es = enumerate_from 0 fields in
    all_zip-more (IsColumn t) es old new k (k, get_or fields k any_field) c (omega (arith, below, length-enumerate_from 0 fields))
    (sym (enumerated-at fields k (get_or fields k any_field) below ∙ ap (λ (f : FieldShape). (k, f)) (get_or_default fields k (get_or fields k any_field) any_field below)))
    pushed all is

count-columns : (t : Table) (n : ℕ) (fields : List FieldShape) (columns : List Seen) → AllZip (IsColumn t) (enumerate_from n fields) columns → length columns ≡ length fields
count-columns t n fields columns all = AllZip-long (IsColumn t) (enumerate_from n fields) columns all ∙ length-enumerate_from n fields

right-kinds : (t : Table) (n : ℕ) (fields : List FieldShape) (columns : List Seen) → AllZip (IsColumn t) (enumerate_from n fields) columns → list_any wrong_kind (zip columns fields) ≡ false
right-kinds t n [] [] all = refl
right-kinds t n [] (c ∷ columns) all = absurd all
right-kinds t n (f ∷ fields) [] all = absurd all
right-kinds t n (f ∷ fields) (c ∷ columns) all =
    ap (λ k. not (same_kind k (kind_of_field f)) || list_any wrong_kind (zip columns fields)) all.0.kind
    ∙ ap (λ b. not b || list_any wrong_kind (zip columns fields)) (same_kind-refl (kind_of_field f))
    ∙ right-kinds t (n + 1) fields columns all.1

right-sizes : (t : Table) (n : ℕ) (fields : List FieldShape) (columns : List Seen) → AllZip (IsColumn t) (enumerate_from n fields) columns
    → list_any (λ (c : Seen). not (eqb (length c.items) (length t))) columns ≡ false
right-sizes t n [] [] all = refl
right-sizes t n [] (c ∷ columns) all = absurd all
right-sizes t n (f ∷ fields) [] all = absurd all
right-sizes t n (f ∷ fields) (c ∷ columns) all =
    ap (λ b. not b || list_any (λ (d : Seen). not (eqb (length d.items) (length t))) columns)
    (eq-eqb (length c.items) (length t) (ap (λ (l : List Item). length l) all.0.items ∙ length-column t n))
    ∙ right-sizes t (n + 1) fields columns all.1

-- columns of a table that isn't too long are a lawful batch
pub columns-lawful : (fields : List FieldShape) (t : Table) (columns : List Seen) → AllZip (IsColumn t) (enumerate_from 0 fields) columns → is_past (length t) ≡ false → batch_fault fields (length t) columns ≡ None
columns-lawful fields t columns all few =
    faultless fields (length t) columns
    (record { count = count-columns t 0 fields columns all; kinds = right-kinds t 0 fields columns all; small = few; long = right-sizes t 0 fields columns all })

-- ---- rows

items-at : (t : Table) (n : ℕ) (fields : List FieldShape) (columns : List Seen) (j : ℕ) (d : Seen) → AllZip (IsColumn t) (enumerate_from n fields) columns → j < length fields
    → (get_or columns j d).items ≡ column t (n + j)
items-at t n [] columns j d all below = absurd (omega (arith, below))
items-at t n (f ∷ fields) [] j d all below = absurd all
items-at t n (f ∷ fields) (c ∷ columns) zero d all below = let same : n ≡ n + 0 = omega arith in all.0.items ∙ ap (column t) same
items-at t n (f ∷ fields) (c ∷ columns) (suc j) d all below =
    let same : n + 1 + j ≡ n + suc j = omega arith in items-at t (n + 1) fields columns j d all.1 (omega (arith, below)) ∙ ap (column t) same

-- Each row has an item for each field.
abbrev pub AreWide : List FieldShape → Table → Type 0
AreWide fields t = All (λ (row : Row). length row ≡ length fields) t

pub wide-rows : (fields : List FieldShape) (b : Batch) → IsBatchOf fields b → AreWide fields (rows_of b)
wide-rows fields b is =
    All-map (λ (row : Row). length row ≡ length fields) (row_of b.columns) (range_with_len 0 b.rows)
    (λ i d within. length-map b.columns (λ (c : Seen). get_or c.items (get_or (range_with_len 0 b.rows) i d) null) ∙ count-of fields b is)

pub wide-together : (fields : List FieldShape) (batches : List Batch) → All (IsBatchOf fields) batches → AreWide fields (together (map rows_of batches))
wide-together fields [] all = All-nil (λ (row : Row). length row ≡ length fields)
wide-together fields (b ∷ batches) all =
    All-append (λ (row : Row). length row ≡ length fields) (rows_of b) (together (map rows_of batches)) (wide-rows fields b (All-head (IsBatchOf fields) b batches all))
    (wide-together fields batches (All-tail (IsBatchOf fields) b batches all))

any_column : Seen
any_column = record { kind = kind.dict; validity = None; items = []; codes = []; entries = record { validity = None; items = [] } }

row-is : (fields : List FieldShape) (t : Table) (columns : List Seen) (i : ℕ) → AllZip (IsColumn t) (enumerate_from 0 fields) columns → AreWide fields t → i < length t → row_of columns i ≡ get_or t i []
row-is fields t columns i all wide below =
    let count = count-columns t 0 fields columns all in
    ext_get_or null (row_of columns i) (get_or t i []) (length-map columns (λ (c : Seen). get_or c.items i null) ∙ count ∙ sym (wide i [] below))
    (λ j within. one j (omega (arith, within, length-map columns (λ (c : Seen). get_or c.items i null), count)))
  where
    one : (j : ℕ) → j < length fields → get_or (row_of columns i) j null ≡ get_or (get_or t i []) j null
    one j within =
        let count = count-columns t 0 fields columns all in
        let same : 0 + j ≡ j = omega arith in
        let d = get_or columns j any_column in
        row-item columns i j d (omega (arith, within, count))
        ∙ ap (λ (l : List Item). get_or l i null) (items-at t 0 fields columns j d all within ∙ ap (column t) same)
        ∙ get_or-map (λ (row : Row). slice_index_or row j null) t i [] null below

-- the rows of the columns of a table are those of the table
pub rows-are : (fields : List FieldShape) (t : Table) (columns : List Seen) → AllZip (IsColumn t) (enumerate_from 0 fields) columns → AreWide fields t
    → map (row_of columns) (range_with_len 0 (length t)) ≡ t
rows-are fields t columns all wide =
    ext_get_or [] (map (row_of columns) (range_with_len 0 (length t))) t (length-map-range_with_len (row_of columns) 0 (length t))
    (λ i within. at i (omega (arith, within, length-map-range_with_len (row_of columns) 0 (length t))))
  where
    at : (i : ℕ) → i < length t → get_or (map (row_of columns) (range_with_len 0 (length t))) i [] ≡ get_or t i []
    at i below = let same : 0 + i ≡ i = omega arith in get_or-map-range_with_len (row_of columns) 0 (length t) i i [] below same ∙ row-is fields t columns i all wide below

-- ---- dictionaries

abbrev pub SharedWords : Type 0
SharedWords = Arc Seen Global

abbrev pub words_of : List (Option SharedWords) → List (Option Seen)
words_of dictionaries = map (option_map (λ (w : SharedWords). arc_value w)) dictionaries

pub words-at : (dictionaries : List (Option SharedWords)) (k : ℕ) (o : Option SharedWords) → k < length dictionaries → o ≡ get_or dictionaries k o
    → option_map (λ (w : SharedWords). arc_value w) o ≡ get_or (words_of dictionaries) k (option_map (λ (w : SharedWords). arc_value w) o)
words-at dictionaries k o below is =
    let f : Option SharedWords → Option Seen = option_map (λ (w : SharedWords). arc_value w) in
    ap f is ∙ sym (get_or-map f dictionaries k o (f o) below)

pub count-words : (fields : List FieldShape) (dictionaries : List (Option SharedWords)) → AllZip IsDictionary fields (words_of dictionaries) → length dictionaries ≡ length fields
count-words fields dictionaries are =
    sym (length-map dictionaries (option_map (λ (w : SharedWords). arc_value w))) ∙ AllZip-long IsDictionary fields (words_of dictionaries) are

pub zipped-more : (R : Seen → Option Seen → Type 0) (words : List (Option Seen)) (k : ℕ) (o : Option Seen) (c : Seen) (old new : List Seen) → k < length words → o ≡ get_or words k o → AllZip R old (take k words)
    → R c o → new ≡ old ++ c ∷ [] → AllZip R new (take (k + 1) words)
zipped-more R words k o c old new below at all front pushed =
    subst (λ l. AllZip R l (take (k + 1) words)) (sym pushed)
    (subst (AllZip R (old ++ c ∷ [])) (sym (take_more words k o below ∙ ap (λ x. take k words ++ x ∷ []) (sym at))) (all_zip-push R old (take k words) c o all front))

-- the columns in the end
pub columns-all : (fields : List FieldShape) (t : Table) (k : ℕ) (columns : List Seen) → length fields ≤ k → AllZip (IsColumn t) (take k (enumerate_from 0 fields)) columns → AllZip (IsColumn t) (enumerate_from 0 fields) columns
columns-all fields t k columns past all =
    let es = enumerate_from 0 fields in
    subst (λ l. AllZip (IsColumn t) l columns) (take_all k es (omega (arith, past, length-enumerate_from 0 fields))) all

pub batch-rows : (fields : List FieldShape) (dictionaries : List (Option Seen)) (batches : List Batch) (b : Batch) → All (IsUnder fields dictionaries) batches
    → AllZip (IsColumn (together (map rows_of batches))) (enumerate_from 0 fields) b.columns → b.rows ≡ length (together (map rows_of batches)) → rows_of b ≡ together (map rows_of batches)
batch-rows fields dictionaries batches b under all count =
    let t = together (map rows_of batches) in
    ap (λ n. map (row_of b.columns) (range_with_len 0 n)) count ∙ rows-are fields t b.columns all (wide-together fields batches (batches-of fields dictionaries batches under))

-- ---- a batch over longer dictionaries

pub is-over : (words s c : Seen) → s.kind ≡ kind.dict → c ≡ over s words → IsOver (Some words) s c
is-over words s c dict made = record {
  kind = ap (λ (q : Seen). q.kind) made ∙ sym dict;
  items = ap (λ (q : Seen). q.items) made;
  front = subst (λ (q : Seen). IsPrefix q.entries.items words.items) (sym made) ([], append-nil words.items);
}

pub whole-over : (words s c : Seen) → c ≡ over s words → NamesWhole c (Some words)
whole-over words s c made = ap (λ (q : Seen). q.entries.items) made

-- texts that begin others and are as many are all of them
same-as-long : {A : Type 0} (xs ys : List A) → IsPrefix xs ys → length xs ≡ length ys → xs ≡ ys
same-as-long xs ys front same =
    let none = nil_from_length front.0 (omega (arith, same, ap length front.1, length-append xs front.0)) in
    sym (append-nil xs) ∙ ap (λ l. xs ++ l) (sym none) ∙ front.1

front-as-long : (b : Bool) (xs ys : List Item) → IsPrefix xs ys → cond b (length xs) 0 ≡ length ys → xs ≡ ys
front-as-long true xs ys front same = same-as-long xs ys front same
front-as-long false xs ys front same =
    same-as-long xs ys front (omega (arith, same, ap length front.1, length-append xs front.0))

whole-at : (c : Seen) (o : Option Seen) → NamesFront c o → is_as_long o c ≡ true → NamesWhole c o
whole-at c None front long = tt
whole-at c (Some d) front long = front-as-long (same_kind c.kind kind.dict) c.entries.items d.items front (eqb-true (entry_count c) (length d.items) long)

pub names-whole : (columns : List Seen) (words : List (Option Seen)) → AllZip NamesFront columns words → are_as_long words columns ≡ true → AllZip NamesWhole columns words
names-whole [] [] fronts long = tt
names-whole [] (o ∷ words) fronts long = absurd fronts
names-whole (c ∷ columns) [] fronts long = absurd fronts
names-whole (c ∷ columns) (o ∷ words) fronts long =
    let both = and_parts (is_as_long o c) (are_as_long words columns) long in
    (whole-at c o fronts.0 both.0, names-whole columns words fronts.1 both.1)

-- the same, column by column
abbrev pub as_long : Option Seen × Seen → Bool
as_long p = is_as_long p.0 p.1

as-long-at : (words : List (Option Seen)) (columns : List Seen) (k : ℕ) (o : Option Seen) (c : Seen) → k < length words → k < length columns → o ≡ get_or words k o → c ≡ get_or columns k c
    → as_long (get_or (zip words columns) k (o, c)) ≡ is_as_long o c
as-long-at words columns k o c in_words in_columns word-is column-is =
    ap as_long (get_or-zip words columns k (o, c) in_words in_columns)
    ∙ ap (λ (q : Option Seen). is_as_long q (get_or columns k c)) (sym word-is)
    ∙ ap (is_as_long o) (sym column-is)

pub as-long-more : (words : List (Option Seen)) (columns : List Seen) (k : ℕ) (o : Option Seen) (c : Seen) → k < length words → k < length columns → o ≡ get_or words k o → c ≡ get_or columns k c
    → list_all as_long (take k (zip words columns)) ≡ true → is_as_long o c ≡ true → list_all as_long (take (k + 1) (zip words columns)) ≡ true
as-long-more words columns k o c in_words in_columns word-is column-is before here =
    list_all_more as_long (zip words columns) k (o, c) (omega (arith, in_words, in_columns, length-zip words columns))
    ∙ ap (λ b. b && as_long (get_or (zip words columns) k (o, c))) before
    ∙ as-long-at words columns k o c in_words in_columns word-is column-is
    ∙ here

pub as-long-none : (words : List (Option Seen)) (columns : List Seen) (k : ℕ) (o : Option Seen) (c : Seen) → k < length words → k < length columns → o ≡ get_or words k o → c ≡ get_or columns k c
    → is_as_long o c ≡ false → are_as_long words columns ≡ false
as-long-none words columns k o c in_words in_columns word-is column-is here =
    list_all_at as_long (zip words columns) k (o, c) (omega (arith, in_words, in_columns, length-zip words columns)) (as-long-at words columns k o c in_words in_columns word-is column-is ∙ here)

pub as-long-all : (words : List (Option Seen)) (columns : List Seen) (k : ℕ) → length (zip words columns) ≤ k → list_all as_long (take k (zip words columns)) ≡ true → are_as_long words columns ≡ true
as-long-all words columns k past all = ap (list_all as_long) (sym (take_all k (zip words columns) past)) ∙ all

pub fronts-whole : (columns : List Seen) (words : List (Option Seen)) → AllZip NamesWhole columns words → AllZip NamesFront columns words
fronts-whole [] [] whole = tt
fronts-whole [] (o ∷ words) whole = absurd whole
fronts-whole (c ∷ columns) [] whole = absurd whole
fronts-whole (c ∷ columns) (None ∷ words) whole = (tt, fronts-whole columns words whole.1)
fronts-whole (c ∷ columns) (Some d ∷ words) whole = (([], append-nil c.entries.items ∙ whole.0), fronts-whole columns words whole.1)

pub column-over : (fields : List FieldShape) (dictionaries : List (Option Seen)) (b : Batch) (k : ℕ) (o : Option Seen) (s c : Seen) → k < length fields → IsUnder fields dictionaries b → s ≡ get_or b.columns k s
    → IsOver o s c → IsColumn (rows_of b) (k, get_or fields k any_field) c
column-over fields dictionaries b k o s c below under at is =
    let of = batch-of fields dictionaries b under in
    record {
      kind = is.kind ∙ ap (λ (q : Seen). q.kind) at ∙ kind-at fields b k any_field of below s;
      items = is.items ∙ ap (λ (q : Seen). q.items) at ∙ sym (column-is b k s under.lawful (omega (arith, below, count-of fields b of)));
    }

pub encoded-at : (fields : List FieldShape) (dictionaries : List (Option Seen)) (b : Batch) (k : ℕ) (o : Option Seen) (s : Seen) → k < length fields → AllZip IsDictionary fields dictionaries → IsUnder fields dictionaries b
    → s ≡ get_or b.columns k s → o ≡ get_or dictionaries k o → is_some o ≡ same_kind s.kind kind.dict
encoded-at fields dictionaries b k o s below are under at is =
    encoded-as (get_or fields k any_field) o (subst (IsDictionary (get_or fields k any_field)) (sym is) (all_zip-at IsDictionary fields dictionaries k any_field o are below))
    ∙ ap (λ j. same_kind j kind.dict) (sym (ap (λ (q : Seen). q.kind) at ∙ kind-at fields b k any_field (batch-of fields dictionaries b under) below s))

pub front-at : (fields : List FieldShape) (dictionaries : List (Option Seen)) (b : Batch) (k : ℕ) (o : Option Seen) (s : Seen) → k < length fields → IsUnder fields dictionaries b
    → s ≡ get_or b.columns k s → o ≡ get_or dictionaries k o → NamesFront s o
front-at fields dictionaries b k o s below under at is =
    subst (λ q. NamesFront q o) (sym at)
    (subst (NamesFront (get_or b.columns k s)) (sym is) (all_zip-at NamesFront b.columns dictionaries k s o under.fronts (omega (arith, below, count-of fields b (batch-of fields dictionaries b under)))))

pub lawful-over : (fields : List FieldShape) (dictionaries : List (Option Seen)) (b : Batch) (columns : List Seen) → IsUnder fields dictionaries b → AllZip (IsColumn (rows_of b)) (enumerate_from 0 fields) columns
    → batch_fault fields b.rows columns ≡ None
lawful-over fields dictionaries b columns under all =
    ap (λ n. batch_fault fields n columns) (sym (length-rows_of b))
    ∙ columns-lawful fields (rows_of b) columns all (ap is_past (length-rows_of b) ∙ (whole b.fields b.rows b.columns under.lawful).small)

pub rows-over : (fields : List FieldShape) (dictionaries : List (Option Seen)) (b made : Batch) → IsUnder fields dictionaries b → AllZip (IsColumn (rows_of b)) (enumerate_from 0 fields) made.columns
    → made.rows ≡ b.rows → rows_of made ≡ rows_of b
rows-over fields dictionaries b made under all count =
    ap (λ n. map (row_of made.columns) (range_with_len 0 n)) (count ∙ sym (length-rows_of b))
    ∙ rows-are fields (rows_of b) made.columns all (wide-rows fields b (batch-of fields dictionaries b under))

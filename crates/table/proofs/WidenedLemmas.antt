-- Rows, tables and histories with columns more, in which the rows that were there show null.
use Rattle.std.proofs.Common.{◌≡◌, ◌∙◌, ◌&&◌, ℕ, zero, suc, ◌+◌, ◌-◌, ◌≤◌, ◌^◌, ◌==◌, List, [], ◌∷◌, ◌++◌, length, get_or, map, take, drop, replicate, All, Bool, true, false, cond, nat_lt, Option, None, Some, option_map, position, ap, sym, refl, subst, arith}
use Rattle.std.specs.Bool.{then_some}
use Rattle.std.specs.List.{enumerate_from}
use mathlib.Core.List.{IsPrefix}
use Rattle.std.proofs.lemmas.List.{drop-map, get_or_past, length-map, map-append, take-map, take_all}
use Rattle.std.proofs.lemmas.List.Elements.{All-append, All-cons, All-map}
use Rattle.std.proofs.lemmas.Simd.{map-map}
use Rattle.arrays.specs.Prelude.{FieldShape, IsItemOf, Item, Kind, Row, Table, column, first, is_null, is_nullable, kind_of_field, null}
use Rattle.answers.proofs.ColumnsLemmas.{all_zip-push}
use Rattle.pool.specs.Texts.{firsts, is_too_full, texts_of}
use Rattle.table.specs.Prelude.{History, IsLegal, IsRowOf, IsTableOf, book, cause, full_in, history_from, is_book_full, is_table_full, is_text_field, null_cause, null_in, null_row, of, rows, texts_cause, widened, widened_row, widened_table}
use Rattle.table.specs.declared.refusal.Refusal.{Refusal}
use Rattle.table.specs.declared.refusal.Refusal.TheVariants.{BookFull, NullInNonNullable, TableFull, TextsFull}
use Rattle.arrays.proofs.BatchLemmas.{map-same}
use Rattle.table.proofs.EmptyLemmas.{enumerate_from-push}
use Rattle.table.proofs.StorageLemmas.{length-all_zip}

-- ---- rows

-- once more, to as many items or more
pub row-again : (m n : ℕ) → m ≤ n → (row : Row) → widened_row n (widened_row m row) ≡ widened_row n row
row-again zero n within row = refl
row-again (suc m) zero within row = absurd (omega (arith, within))
row-again (suc m) (suc n) within [] = ap (λ r. null ∷ r) (row-again m n (omega (arith, within)) [])
row-again (suc m) (suc n) within (x ∷ row) = ap (λ r. x ∷ r) (row-again m n (omega (arith, within)) row)

-- a row of so many items stays
pub row-long : (n : ℕ) (row : Row) → n ≤ length row → widened_row n row ≡ row
row-long zero row long = refl
row-long (suc n) [] long = absurd (omega (arith, long))
row-long (suc n) (x ∷ row) long = ap (λ r. x ∷ r) (row-long n row (omega (arith, long)))

-- each item stays, and those behind the end are null
pub row-item : (n : ℕ) (row : Row) (k : ℕ) → get_or (widened_row n row) k null ≡ get_or row k null
row-item zero row k = refl
row-item (suc n) [] zero = refl
row-item (suc n) [] (suc k) = row-item n [] k
row-item (suc n) (x ∷ row) zero = refl
row-item (suc n) (x ∷ row) (suc k) = row-item n row k

-- one item more
pub row-one : (n : ℕ) (row : Row) → n ≡ length row + 1 → widened_row n row ≡ row ++ null ∷ []
row-one zero row size = absurd (omega (arith, size))
row-one (suc n) [] size = let none : n ≡ zero = omega (arith, size) in ap (λ m. null ∷ widened_row m []) none
row-one (suc n) (x ∷ row) size = ap (λ r. x ∷ r) (row-one n row (omega (arith, size)))

pub length-row : (n : ℕ) (row : Row) → length row ≤ n → length (widened_row n row) ≡ n
length-row zero row short = omega (arith, short)
length-row (suc n) [] short = let rest = length-row n [] (omega arith) in omega (arith, rest)
length-row (suc n) (x ∷ row) short = let rest = length-row n row (omega (arith, short)) in omega (arith, rest)

-- the row begins what it is widened to
pub row-front : (n : ℕ) (row : Row) → take (length row) (widened_row n row) ≡ row
row-front zero row = take_all (length row) row (omega arith)
row-front (suc n) [] = refl
row-front (suc n) (x ∷ row) = ap (λ r. x ∷ r) (row-front n row)

-- ---- tables

pub table-again : (m n : ℕ) → m ≤ n → (t : Table) → widened_table n (widened_table m t) ≡ widened_table n t
table-again m n within t = map-map (widened_row n) (widened_row m) t ∙ map-same _ (widened_row n) (row-again m n within) t

pub table-long : (n : ℕ) (t : Table) → All (λ (row : Row). n ≤ length row) t → widened_table n t ≡ t
table-long n [] long = refl
table-long n (row ∷ t) long =
    ap (λ r. r ∷ widened_table n t) (row-long n row (long 0 row (omega arith))) ∙ ap (λ u. row ∷ u) (table-long n t (λ k d below. long (suc k) d (omega (arith, below))))

pub table-append : (n : ℕ) (t u : Table) → widened_table n (t ++ u) ≡ widened_table n t ++ widened_table n u
table-append n t u = map-append (widened_row n) t u

pub length-table : (n : ℕ) (t : Table) → length (widened_table n t) ≡ length t
length-table n t = length-map t (widened_row n)

pub table-take : (n i : ℕ) (t : Table) → take i (widened_table n t) ≡ widened_table n (take i t)
table-take n i t = take-map (widened_row n) i t

pub table-drop : (n i : ℕ) (t : Table) → drop i (widened_table n t) ≡ widened_table n (drop i t)
table-drop n i t = drop-map (widened_row n) i t

-- no column changes: what is behind the end of a row is null in it
pub table-column : (n : ℕ) (t : Table) (k : ℕ) → column (widened_table n t) k ≡ column t k
table-column n t k =
    map-map (λ (row : Row). get_or row k null) (widened_row n) t ∙ map-same _ (λ (row : Row). get_or row k null) (λ row. row-item n row k) t

-- a column behind the end of each row is null
pub column-behind : (k : ℕ) (t : Table) → All (λ (row : Row). length row ≤ k) t → column t k ≡ replicate (length t) null
column-behind k [] short = refl
column-behind k (row ∷ t) short =
    ap (λ x. x ∷ column t k) (get_or_past row k null (short 0 row (omega arith)))
    ∙ ap (λ l. null ∷ l) (column-behind k t (λ i d below. short (suc i) d (omega (arith, below))))

pub column-added : (n k : ℕ) (t : Table) → All (λ (row : Row). length row ≤ k) t → column (widened_table n t) k ≡ replicate (length t) null
column-added n k t short = table-column n t k ∙ column-behind k t short

-- ---- histories

pub widened-again : (m n : ℕ) → m ≤ n → (h : History) → widened n (widened m h) ≡ widened n h
widened-again m n within [] = refl
widened-again m n within (e ∷ h) =
    ap (λ (t : Table). (e.0, t) ∷ widened n (widened m h)) (table-again m n within e.1) ∙ ap (λ (g : History). (e.0, widened_table n e.1) ∷ g) (widened-again m n within h)

pub widened-long : (n : ℕ) (h : History) → All (λ (e : ℕ × Table). All (λ (row : Row). n ≤ length row) e.1) h → widened n h ≡ h
widened-long n [] wide = refl
widened-long n (e ∷ h) wide =
    ap (λ (t : Table). (e.0, t) ∷ widened n h) (table-long n e.1 (wide 0 e (omega arith)))
    ∙ ap (λ (g : History). e ∷ g) (widened-long n h (λ k d below. wide (suc k) d (omega (arith, below))))

pub widened-append : (n : ℕ) (h k : History) → widened n (h ++ k) ≡ widened n h ++ widened n k
widened-append n h k = map-append (λ (e : ℕ × Table). (e.0, widened_table n e.1)) h k

pub length-widened : (n : ℕ) (h : History) → length (widened n h) ≡ length h
length-widened n h = length-map h (λ (e : ℕ × Table). (e.0, widened_table n e.1))

of-if : (n : ℕ) (b : Bool) (e : ℕ × Table) (theirs wide : History) → wide ≡ widened n theirs → cond b ((e.0, widened_table n e.1) ∷ wide) wide ≡ widened n (cond b (e ∷ theirs) theirs)
of-if n true e theirs wide same = ap (λ (g : History). (e.0, widened_table n e.1) ∷ g) same
of-if n false e theirs wide same = same

-- the pairs of one worker
pub of-widened : (n : ℕ) (h : History) (worker : ℕ) → of (widened n h) worker ≡ widened n (of h worker)
of-widened n [] worker = refl
of-widened n (e ∷ h) worker = of-if n (e.0 == worker) e (of h worker) (of (widened n h) worker) (of-widened n h worker)

pub take-widened : (n i : ℕ) (h : History) → take i (widened n h) ≡ widened n (take i h)
take-widened n i h = take-map (λ (e : ℕ × Table). (e.0, widened_table n e.1)) i h

pub prefix-widened : (n : ℕ) (h k : History) → IsPrefix h k → IsPrefix (widened n h) (widened n k)
prefix-widened n h k begins = (widened n begins.0, sym (widened-append n h begins.0) ∙ ap (widened n) begins.1)

pub rows-widened : (n : ℕ) (h : History) → rows (widened n h) ≡ widened_table n (rows h)
rows-widened n [] = refl
rows-widened n (e ∷ h) = ap (λ (t : Table). widened_table n e.1 ++ t) (rows-widened n h) ∙ sym (table-append n e.1 (rows h))

pub book-widened : (n : ℕ) (h : History) → book (widened n h) ≡ book h
book-widened n [] = refl
book-widened n (e ∷ h) = ap (λ m. (e.0, m) ∷ book (widened n h)) (length-table n e.1) ∙ ap (λ b. (e.0, length e.1) ∷ b) (book-widened n h)

pub cut-widened : (n : ℕ) (entries : List (ℕ × ℕ)) (t : Table) → history_from entries (widened_table n t) ≡ widened n (history_from entries t)
cut-widened n [] t = refl
cut-widened n (e ∷ entries) t =
    ap (λ (u : Table). (e.0, u) ∷ history_from entries (drop e.1 (widened_table n t))) (table-take n e.1 t)
    ∙ ap (λ (u : Table). (e.0, widened_table n (take e.1 t)) ∷ history_from entries u) (table-drop n e.1 t)
    ∙ ap (λ (h : History). (e.0, widened_table n (take e.1 t)) ∷ h) (cut-widened n entries (drop e.1 t))

-- ---- rows of fields

pub length-of_fields : (fields : List FieldShape) (row : Row) → IsRowOf fields row → length row ≡ length fields
length-of_fields fields row is = sym (length-all_zip (λ f x. IsItemOf (kind_of_field f) x) fields row is)

null-of : (k : Kind) → IsItemOf k null
null-of k = tt

pub row-typed : (fields : List FieldShape) (f : FieldShape) (row : Row) → IsRowOf fields row → IsRowOf (fields ++ f ∷ []) (widened_row (length fields + 1) row)
row-typed fields f row is =
    subst (IsRowOf (fields ++ f ∷ [])) (sym (row-one (length fields + 1) row (omega (arith, length-of_fields fields row is))))
    (all_zip-push (λ g x. IsItemOf (kind_of_field g) x) fields row f null is (null-of (kind_of_field f)))

pub table-typed : (fields : List FieldShape) (f : FieldShape) (t : Table) → IsTableOf fields t → IsTableOf (fields ++ f ∷ []) (widened_table (length fields + 1) t)
table-typed fields f t typed =
    All-map (IsRowOf (fields ++ f ∷ [])) (widened_row (length fields + 1)) t (λ k row below. row-typed fields f (get_or t k row) (typed k row below))

pub table-short : (fields : List FieldShape) (t : Table) → IsTableOf fields t → All (λ (row : Row). length row ≤ length fields) t
table-short fields t typed = λ k row below. let size = length-of_fields fields (get_or t k row) (typed k row below) in omega (arith, size)

pub table-wide : (fields : List FieldShape) (t : Table) → IsTableOf fields t → All (λ (row : Row). length fields ≤ length row) t
table-wide fields t typed = λ k row below. let size = length-of_fields fields (get_or t k row) (typed k row below) in omega (arith, size)

-- the column of a field more
pub added-null : (fields : List FieldShape) (t : Table) → IsTableOf fields t → column (widened_table (length fields + 1) t) (length fields) ≡ replicate (length t) null
added-null fields t typed = column-added (length fields + 1) (length fields) t (table-short fields t typed)

-- what is of the fields is as wide as they are
pub long-typed : (fields : List FieldShape) (h : History) → All (λ (e : ℕ × Table). IsTableOf fields e.1) h → widened (length fields) h ≡ h
long-typed fields h typed = widened-long (length fields) h (λ k e below. table-wide fields (get_or h k e).1 (typed k e below))

-- ---- parts of lists

all-front : {A : Type 0} (P : A → Type 0) (xs ys : List A) → All P (xs ++ ys) → All P xs
all-front P [] ys all = λ k d below. absurd (omega (arith, below))
all-front P (x ∷ xs) ys all = All-cons P x xs (all 0 x (omega arith)) (all-front P xs ys (λ k d below. all (suc k) d (omega (arith, below))))

all-at : {A : Type 0} (P : A → Type 0) (xs : List A) (y : A) (ys : List A) → All P (xs ++ y ∷ ys) → P y
all-at P [] y ys all = all 0 y (omega arith)
all-at P (x ∷ xs) y ys all = all-at P xs y ys (λ k d below. all (suc k) d (omega (arith, below)))

-- the parts of a list whose images stand before, at and behind a place
record Cut {A B : Type 0} (f : A → B) (xs : List A) (before : List B) (y : B) : Type 0 where
  front : List A
  item : A
  back : List A
  whole : xs ≡ front ++ item ∷ back
  begins : map f front ≡ before
  there : f item ≡ y

-- one item more before
cut-later : {A B : Type 0} (f : A → B) (x : A) (xs : List A) (b : B) (before : List B) (y : B) → f x ≡ b → Cut f xs before y → Cut f (x ∷ xs) (b ∷ before) y
cut-later f x xs b before y same c = record {
  front = x ∷ c.front;
  item = c.item;
  back = c.back;
  whole = ap (λ l. x ∷ l) c.whole;
  begins = ap (λ l. f x ∷ l) c.begins ∙ ap (λ z. z ∷ before) same;
  there = c.there;
}

cut-images : {A B : Type 0} (f : A → B) (xs : List A) (before : List B) (y : B) (rest : List B) → map f xs ≡ before ++ y ∷ rest → Cut f xs before y
cut-images f [] [] y rest p = absurd cc
cut-images f [] (b ∷ before) y rest p = absurd cc
cut-images f (x ∷ xs) [] y rest p = record { front = []; item = x; back = xs; whole = refl; begins = refl; there = cc }
cut-images f (x ∷ xs) (b ∷ before) y rest p =
    let same : f x ≡ b = cc in
    let later : map f xs ≡ before ++ y ∷ rest = cc in
    cut-later f x xs b before y same (cut-images f xs before y rest later)

rows-typed : (fields : List FieldShape) (h : History) → All (λ (e : ℕ × Table). IsTableOf fields e.1) h → IsTableOf fields (rows h)
rows-typed fields [] shaped = λ k d below. absurd (omega (arith, below))
rows-typed fields (e ∷ h) shaped =
    All-append (IsRowOf fields) e.1 (rows h) (shaped 0 e (omega arith)) (rows-typed fields h (λ k d below. shaped (suc k) d (omega (arith, below))))

-- ---- refusals

first-push : {A : Type 0} (xs : List (Option A)) → first (xs ++ None ∷ []) ≡ first xs
first-push [] = refl
first-push (None ∷ xs) = first-push xs
first-push (Some x ∷ xs) = refl

-- one field more, at which nothing is refused, behind those at which the same is
first-wider : (old new : ℕ × FieldShape → Option Refusal) (fields : List FieldShape) (f : FieldShape) → ((e : ℕ × FieldShape) → new e ≡ old e) → old (length fields, f) ≡ None
    → first (map new (enumerate_from 0 (fields ++ f ∷ []))) ≡ first (map old (enumerate_from 0 fields))
first-wider old new fields f same none =
    let place : 0 + length fields ≡ length fields = omega arith in
    ap (λ (es : List (ℕ × FieldShape)). first (map new es)) (enumerate_from-push 0 fields f)
    ∙ ap (λ (l : List (Option Refusal)). first l) (map-same new old same (enumerate_from 0 fields ++ (0 + length fields, f) ∷ []))
    ∙ ap (λ (l : List (Option Refusal)). first l) (map-append old (enumerate_from 0 fields) ((0 + length fields, f) ∷ []))
    ∙ ap (λ m. first (map old (enumerate_from 0 fields) ++ old (m, f) ∷ [])) place
    ∙ ap (λ o. first (map old (enumerate_from 0 fields) ++ o ∷ [])) none
    ∙ first-push (map old (enumerate_from 0 fields))

-- a field that may hold nulls refuses none
null-nullable : (t : Table) (k : ℕ) (f : FieldShape) → is_nullable f ≡ true → null_in t (k, f) ≡ None
null-nullable t k f nullable = ap (λ b. option_map (λ row. NullInNonNullable k row) (cond b None (position is_null (column t k)))) nullable

pub null_cause-wider : (fields : List FieldShape) (f : FieldShape) (n : ℕ) (t : Table) → is_nullable f ≡ true → null_cause (fields ++ f ∷ []) (widened_table n t) ≡ null_cause fields t
unfolding null_cause
null_cause-wider fields f n t nullable =
    first-wider (null_in t) (null_in (widened_table n t)) fields f
    (λ e. ap (λ (l : List Item). option_map (λ row. NullInNonNullable e.0 row) (null_row e.1 l)) (table-column n t e.0))
    (null-nullable t (length fields) f nullable)

pub texts-null : (m : ℕ) → texts_of (replicate m null) ≡ []
texts-null zero = refl
texts-null (suc m) = texts-null m

all-rows : (n : ℕ) (h : History) (t : Table) → rows (widened n h) ++ widened_table n t ≡ widened_table n (rows h ++ t)
all-rows n h t = ap (λ (u : Table). u ++ widened_table n t) (rows-widened n h) ∙ sym (table-append n (rows h) t)

full-if : (b : Bool) (k : ℕ) → then_some (b && is_too_full (firsts [])) (TextsFull k) ≡ None
full-if true k = refl
full-if false k = refl

-- a column of nulls alone has no texts
full-null : (h : History) (t : Table) (k : ℕ) (f : FieldShape) → All (λ (row : Row). length row ≤ k) (rows h ++ t) → full_in h t (k, f) ≡ None
full-null h t k f short =
    ap (λ (l : List Item). then_some (is_text_field f && is_too_full (firsts (texts_of l))) (TextsFull k)) (column-behind k (rows h ++ t) short)
    ∙ ap (λ ts. then_some (is_text_field f && is_too_full (firsts ts)) (TextsFull k)) (texts-null (length (rows h ++ t)))
    ∙ full-if (is_text_field f) k

pub texts_cause-wider : (fields : List FieldShape) (f : FieldShape) (n : ℕ) (h : History) (t : Table) → All (λ (e : ℕ × Table). IsTableOf fields e.1) h → IsTableOf fields t
    → texts_cause (fields ++ f ∷ []) (widened n h) (widened_table n t) ≡ texts_cause fields h t
unfolding texts_cause
texts_cause-wider fields f n h t shaped typed =
    first-wider (full_in h t) (full_in (widened n h) (widened_table n t)) fields f
    (λ e. ap (λ (l : List Item). then_some (is_text_field e.1 && is_too_full (firsts (texts_of l))) (TextsFull e.0))
    (ap (λ (u : Table). column u e.0) (all-rows n h t) ∙ table-column n (rows h ++ t) e.0))
    (full-null h t (length fields) f (table-short fields (rows h ++ t) (All-append (IsRowOf fields) (rows h) t (rows-typed fields h shaped) typed)))

abbrev causes : Option Refusal → Bool → Bool → Option Refusal → Option Refusal
causes nulls full book texts = first (nulls ∷ then_some full TableFull ∷ then_some book BookFull ∷ texts ∷ [])

-- what is refused stays the same
pub cause-wider : (fields : List FieldShape) (f : FieldShape) (n : ℕ) (h : History) (t : Table) → is_nullable f ≡ true → All (λ (e : ℕ × Table). IsTableOf fields e.1) h → IsTableOf fields t
    → cause (fields ++ f ∷ []) (widened n h) (widened_table n t) ≡ cause fields h t
cause-wider fields f n h t nullable shaped typed =
    let size : length (rows (widened n h)) + length (widened_table n t) ≡ length (rows h) + length t =
    omega (arith, ap (λ (u : Table). length u) (rows-widened n h), length-table n (rows h), length-table n t) in
    ap (λ o. causes o (is_table_full (widened n h) (widened_table n t)) (is_book_full (widened n h)) (texts_cause (fields ++ f ∷ []) (widened n h) (widened_table n t)))
    (null_cause-wider fields f n t nullable)
    ∙ ap (λ m. causes (null_cause fields t) (nat_lt (2 ^ 40) m) (is_book_full (widened n h)) (texts_cause (fields ++ f ∷ []) (widened n h) (widened_table n t))) size
    ∙ ap (λ m. causes (null_cause fields t) (is_table_full h t) (m == 2 ^ 32 - 1) (texts_cause (fields ++ f ∷ []) (widened n h) (widened_table n t))) (length-widened n h)
    ∙ ap (causes (null_cause fields t) (is_table_full h t) (is_book_full h)) (texts_cause-wider fields f n h t shaped typed)

-- ---- legal histories

abbrev wide_pair : ℕ → ℕ × Table → ℕ × Table
wide_pair n e = (e.0, widened_table n e.1)

abbrev Shaped : List FieldShape → ℕ × Table → Type 0
Shaped fields e = IsTableOf fields e.1

-- a legal history with a column more, which may hold nulls, is legal
pub legal-wider : (fields : List FieldShape) (h : History) (f : FieldShape) → is_nullable f ≡ true → IsLegal fields h → IsLegal (fields ++ f ∷ []) (widened (length fields + 1) h)
legal-wider fields h f nullable legal = record {
  shaped = All-map (Shaped (fields ++ f ∷ [])) (wide_pair (length fields + 1)) h (λ k e below. table-typed fields f (get_or h k e).1 (legal.shaped k e below));
  allowed = allowed;
}
  where
    allowed : (before rest : History) (e : ℕ × Table) → widened (length fields + 1) h ≡ before ++ e ∷ rest → cause (fields ++ f ∷ []) before e.1 ≡ None
    allowed before rest e p =
        let c = cut-images (wide_pair (length fields + 1)) h before e rest p in
        let shaped = subst (All (Shaped fields)) c.whole legal.shaped in
        subst (λ (b : History). cause (fields ++ f ∷ []) b e.1 ≡ None) c.begins
        (subst (λ (x : ℕ × Table). cause (fields ++ f ∷ []) (widened (length fields + 1) c.front) x.1 ≡ None) c.there
        (cause-wider fields f (length fields + 1) c.front c.item.1 nullable (all-front (Shaped fields) c.front (c.item ∷ c.back) shaped) (all-at (Shaped fields) c.front c.item c.back shaped)
        ∙ legal.allowed c.front c.back c.item c.whole))

-- and it is so only where it was before
pub legal-narrow : (fields : List FieldShape) (h : History) (f : FieldShape) → is_nullable f ≡ true → All (Shaped fields) h → IsLegal (fields ++ f ∷ []) (widened (length fields + 1) h) → IsLegal fields h
legal-narrow fields h f nullable shaped legal = record {
  shaped = shaped;
  allowed =
      λ before rest e p.
      let all = subst (All (Shaped fields)) p shaped in
      sym (cause-wider fields f (length fields + 1) before e.1 nullable (all-front (Shaped fields) before (e ∷ rest) all) (all-at (Shaped fields) before e rest all))
      ∙ legal.allowed (widened (length fields + 1) before) (widened (length fields + 1) rest) (wide_pair (length fields + 1) e)
      (ap (widened (length fields + 1)) p ∙ widened-append (length fields + 1) before (e ∷ rest));
}

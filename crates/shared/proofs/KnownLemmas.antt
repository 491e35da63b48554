-- What is known after changes, and what begins it.
use Rattle.std.proofs.Common.{◌≡◌, ◌∙◌, ℕ, suc, ◌+◌, ◌<◌, ◌≤◌, ◌^◌, List, [], ◌∷◌, ◌++◌, length, refl, ap, sym, subst, arith, length-append, append_assoc}
use Rattle.std.proofs.lemmas.List.{append-nil}
use Rattle.std.proofs.lemmas.List.Elements.{filter_map-append}
use Rattle.std.specs.Prelude.{All}
use mathlib.Core.List.{IsPrefix}
use Rattle.arrays.specs.Prelude.{Batch, FieldShape, Table, rows_of}
use Rattle.histories.proofs.PrefixLemmas.{prefix_length, prefix_self, prefix_trans}
use Rattle.shared.specs.Prelude.{Change, IsBeginning, IsLegalKnown, Known, added_field, field_added, fields_after, fields_in, known_after, known_of, pair_added, pair_in, pairs_in, with_column}
use Rattle.table.specs.Prelude.{Contents, History, IsLegal, IsTableOf, admitted, widened, widened_table, with_last_field}
use Rattle.table.proofs.WidenedLemmas.{long-typed, prefix-widened, table-long, table-wide, widened-again, widened-append}

-- ---- what is known after changes

pub fields_front : (first : List FieldShape) (xs ys : List Change) → IsPrefix xs ys → IsPrefix (fields_after first xs) (fields_after first ys)
fields_front first xs ys begins = (fields_in begins.0, append_assoc first (fields_in xs) (fields_in begins.0) ∙ ap (λ l. first ++ l) (sym (filter_map-append added_field xs begins.0) ∙ ap fields_in begins.1))

pub pairs_front : (xs ys : List Change) → IsPrefix xs ys → IsPrefix (pairs_in xs) (pairs_in ys)
pairs_front xs ys begins = (pairs_in begins.0, sym (filter_map-append pair_in xs begins.0) ∙ ap pairs_in begins.1)

-- a front of the changes tells a beginning of what they tell
pub known_begins : (first : List FieldShape) (xs ys : List Change) → IsPrefix xs ys → IsBeginning (known_after first xs) (known_after first ys)
known_begins first xs ys begins =
    let fields = fields_front first xs ys begins in
    let m = length (fields_after first xs) in
    let n = length (fields_after first ys) in
    let few : m ≤ n = prefix_length (fields_after first xs) (fields_after first ys) fields in
    record {
      fields = fields;
      history = subst (λ (h : History). IsPrefix h (known_after first ys).history) (sym (widened-again m n few (pairs_in xs)))
          (prefix-widened n (pairs_in xs) (pairs_in ys) (pairs_front xs ys begins));
    }

-- nothing but the fields at opening is known at first
pub known_none : (first : List FieldShape) → known_after first [] ≡ record { fields = first; history = [] }
known_none first = ap (λ (fs : List FieldShape). record { fields = fs; history = [] }) (append-nil first)

-- the fields at opening stay
pub opened_first : (first : List FieldShape) (xs : List Change) → IsPrefix first (fields_after first xs)
opened_first first xs = (fields_in xs, refl)

pub fields_same : (first : List FieldShape) (xs : List Change) (e : ℕ × Table) → fields_after first (xs ++ pair_added e ∷ []) ≡ fields_after first xs
fields_same first xs e = ap (λ l. first ++ l) (filter_map-append added_field xs (pair_added e ∷ []) ∙ append-nil (fields_in xs))

pub pairs_more : (xs : List Change) (e : ℕ × Table) → pairs_in (xs ++ pair_added e ∷ []) ≡ pairs_in xs ++ e ∷ []
pairs_more xs e = filter_map-append pair_in xs (pair_added e ∷ [])

-- a pair more stands behind all others, ended with nulls
pub known_more : (first : List FieldShape) (xs : List Change) (worker : ℕ) (t : Table)
    → known_after first (xs ++ pair_added (worker, t) ∷ [])
    ≡ record { fields = fields_after first xs; history = (known_after first xs).history ++ (worker, widened_table (length (fields_after first xs)) t) ∷ [] }
known_more first xs worker t =
    let n = length (fields_after first xs) in
    let pairs = pairs_more xs (worker, t) in
    ap (λ (fs : List FieldShape). record { fields = fs; history = widened (length fs) (pairs_in (xs ++ pair_added (worker, t) ∷ [])) }) (fields_same first xs (worker, t))
    ∙ ap (λ (h : History). record { fields = fields_after first xs; history = widened n h }) pairs
    ∙ ap (λ (h : History). record { fields = fields_after first xs; history = h }) (widened-append n (pairs_in xs) ((worker, t) ∷ []))

-- ---- legal histories

none_behind : (before rest : History) (e : ℕ × Table) → [] ≡ before ++ e ∷ rest → ⊥
none_behind [] rest e is = cc is
none_behind (x ∷ before) rest e is = cc is

pub legal_none : (fields : List FieldShape) → IsLegal fields []
legal_none fields = record { shaped = λ k d below. absurd (omega (arith, below)); allowed = λ before rest e is. absurd (none_behind before rest e is) }

all_last : {A : Type 0} (P : A → Type 0) (xs : List A) (x : A) → All P (xs ++ x ∷ []) → P x
all_last P [] x all = all 0 x (omega arith)
all_last P (y ∷ xs) x all = all_last P xs x (λ k d below. all (suc k) d (omega (arith, below)))

pub last_typed : (fields : List FieldShape) (h : History) (worker : ℕ) (t : Table) → IsLegal fields (h ++ (worker, t) ∷ []) → IsTableOf fields t
last_typed fields h worker t legal = all_last (λ (e : ℕ × Table). IsTableOf fields e.1) h (worker, t) legal.shaped

pub wide_again : (fields : List FieldShape) (t : Table) → IsTableOf fields t → widened_table (length fields) t ≡ t
wide_again fields t typed = table-long (length fields) t (table-wide fields t typed)

-- a legal history is as wide as its fields
pub legal_wide : (k : Known) → IsLegalKnown k → widened (length k.fields) k.history ≡ k.history
legal_wide k legal = long-typed k.fields k.history legal.shaped

-- ---- what begins what

pub begins_self : (k : Known) → IsLegalKnown k → IsBeginning k k
begins_self k legal = record {
  fields = prefix_self k.fields;
  history = subst (λ (h : History). IsPrefix h k.history) (sym (legal_wide k legal)) (prefix_self k.history);
}

pub begins_trans : (k l m : Known) → IsBeginning k l → IsBeginning l m → IsBeginning k m
begins_trans k l m kl lm =
    let few : length l.fields ≤ length m.fields = prefix_length l.fields m.fields lm.fields in
    record {
      fields = prefix_trans k.fields l.fields m.fields kl.fields lm.fields;
      history = prefix_trans (widened (length m.fields) k.history) (widened (length m.fields) l.history) m.history
          (subst (λ (h : History). IsPrefix h (widened (length m.fields) l.history)) (widened-again (length l.fields) (length m.fields) few k.history)
          (prefix-widened (length m.fields) (widened (length l.fields) k.history) l.history kl.history))
          lm.history;
    }

-- what two fronts tell, of which one begins the other
pub reported_begins : (first : List FieldShape) (xs ys : List Change) (k l : Known) → known_after first xs ≡ k → known_after first ys ≡ l → IsPrefix xs ys → IsBeginning k l
reported_begins first xs ys k l k_is l_is begins = subst (λ (i : Known). IsBeginning i l) k_is (subst (λ (i : Known). IsBeginning (known_after first xs) i) l_is (known_begins first xs ys begins))

-- ---- a table with a batch more

pub known_added : (first : List FieldShape) (xs ys : List Change) (s next : Contents) (worker : ℕ) (b ready : Batch) → known_after first xs ≡ known_of s → ys ≡ xs ++ pair_added (worker, rows_of b) ∷ []
    → ready ≡ b → next ≡ admitted s worker ready → IsLegal next.fields next.history → known_after first ys ≡ known_of next
known_added first xs ys s next worker b ready is more same added legal =
    let pushed : IsLegal s.fields (s.history ++ (worker, rows_of ready) ∷ []) = subst (λ (t : Contents). IsLegal t.fields t.history) added legal in
    let typed : IsTableOf s.fields (rows_of ready) = last_typed s.fields s.history worker (rows_of ready) pushed in
    let n = length (fields_after first xs) in
    ap (known_after first) more
    ∙ known_more first xs worker (rows_of b)
    ∙ ap (λ (k : Known). record { fields = k.fields; history = k.history ++ (worker, widened_table (length k.fields) (rows_of b)) ∷ [] }) is
    ∙ ap (λ (x : Batch). record { fields = s.fields; history = s.history ++ (worker, widened_table (length s.fields) (rows_of x)) ∷ [] }) (sym same)
    ∙ ap (λ (t : Table). record { fields = s.fields; history = s.history ++ (worker, t) ∷ [] }) (wide_again s.fields (rows_of ready) typed)
    ∙ ap known_of (sym added)

-- ---- a table with a column more

fields_more : (first : List FieldShape) (xs : List Change) (f : FieldShape) → fields_after first (xs ++ field_added f ∷ []) ≡ fields_after first xs ++ f ∷ []
fields_more first xs f = ap (λ l. first ++ l) (filter_map-append added_field xs (field_added f ∷ [])) ∙ sym (append_assoc first (fields_in xs) (f ∷ []))

pairs_same : (xs : List Change) (f : FieldShape) → pairs_in (xs ++ field_added f ∷ []) ≡ pairs_in xs
pairs_same xs f = filter_map-append pair_in xs (field_added f ∷ []) ∙ append-nil (pairs_in xs)

-- a field more stands behind the others, and each row ends with null
known_wider : (first : List FieldShape) (xs : List Change) (f : FieldShape) → known_after first (xs ++ field_added f ∷ []) ≡ with_column (known_after first xs) f
known_wider first xs f =
    let fields = fields_after first xs in
    let wide = fields ++ f ∷ [] in
    ap (λ (fs : List FieldShape). record { fields = fs; history = widened (length fs) (pairs_in (xs ++ field_added f ∷ [])) }) (fields_more first xs f)
    ∙ ap (λ (h : History). record { fields = wide; history = widened (length wide) h }) (pairs_same xs f)
    ∙ ap (λ n. record { fields = wide; history = widened n (pairs_in xs) }) (length-append fields (f ∷ []))
    ∙ ap (λ (h : History). record { fields = wide; history = h }) (sym (widened-again (length fields) (length fields + 1) (omega arith) (pairs_in xs)))

pub known_widened : (first : List FieldShape) (xs ys : List Change) (s next : Contents) (f : FieldShape) → known_after first xs ≡ known_of s → ys ≡ xs ++ field_added f ∷ []
    → next ≡ with_last_field s f → known_after first ys ≡ known_of next
known_widened first xs ys s next f is more added =
    ap (known_after first) more ∙ known_wider first xs f ∙ ap (λ (k : Known). with_column k f) is ∙ ap known_of (sym added)

-- there are no more fields than changes
few_fields : (xs : List Change) → length (fields_in xs) ≤ length xs
few_fields [] = omega arith
few_fields (pair_added e ∷ xs) = omega (arith, few_fields xs)
few_fields (field_added f ∷ xs) = omega (arith, few_fields xs)

pub few_added : (first : List FieldShape) (xs : List Change) (s : Contents) (total : ℕ) → known_after first xs ≡ known_of s → length s.fields ≡ length first + total
    → length xs < 2 ^ 62 → total < 2 ^ 62
few_added first xs s total is counted few =
    omega (arith, counted, few, few_fields xs, ap (λ (k : Known). length k.fields) is, length-append first (fields_in xs))

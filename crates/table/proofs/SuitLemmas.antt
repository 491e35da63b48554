-- Columns that suit a table's fields.
use Rattle.std.proofs.Common.{◌≡◌, ◌∙◌, ℕ, zero, suc, ◌+◌, ◌<◌, List, [], ◌∷◌, length, All, Bool, true, false, not, cond, eqb, Option, None, Some, position, get_or, ap, sym, refl, subst, arith}
use Rattle.std.specs.List.{AllZip, enumerate_from, list_any, range_with_len, zip}
use Rattle.std.specs.Str.{bytes_eq}
use Rattle.std.proofs.lemmas.Bool.{eqb-true, not-false, or_parts}
use Rattle.std.proofs.lemmas.List.Elements.{All-map}
use Rattle.arrays.specs.Prelude.{Batch, FieldShape, IsItemOf, Item, Kind, Narrow, Seen, Table, Wide, batch_fault, boolean, column, first, int, kind_of_field, list, name_of, null, row_of, rows_of, same_kind, text}
use Rattle.arrays.specs.Kind as kind
use Rattle.arrays.proofs.ChildLemmas.{same_kinds}
use Rattle.pool.proofs.PlaceLemmas.{among_missing}
use Rattle.table.specs.Prelude.{IsRowOf, IsTableOf, difference, differs, stored_kind}
use Rattle.table.proofs.BatchLemmas.{HasColumns-rows_of}
use Rattle.arrays.proofs.BatchLemmas.{whole, wrong_kind}

abbrev SameKind : FieldShape → Seen → Type 0
SameKind f c = kind_of_field f ≡ stored_kind c.kind

same-kinds : (fields given : List FieldShape) (columns : List Seen) → length fields ≡ length given → length columns ≡ length given
    → list_any differs (zip fields given) ≡ false → list_any wrong_kind (zip columns given) ≡ false → AllZip SameKind fields columns
same-kinds [] [] [] m n p q = tt
same-kinds [] [] (c ∷ columns) m n p q = absurd (omega (arith, n))
same-kinds [] (g ∷ given) columns m n p q = absurd (omega (arith, m))
same-kinds (f ∷ fields) [] columns m n p q = absurd (omega (arith, m))
same-kinds (f ∷ fields) (g ∷ given) [] m n p q = absurd (omega (arith, n))
same-kinds (f ∷ fields) (g ∷ given) (c ∷ columns) m n p q =
    let one = or_parts (differs (f, g)) (list_any differs (zip fields given)) p in
    let two = or_parts (wrong_kind (c, g)) (list_any wrong_kind (zip columns given)) q in
    let kinds = or_parts (not (bytes_eq (name_of f) (name_of g))) (not (same_kind (kind_of_field f) (stored_kind (kind_of_field g)))) one.0 in (
      same_kinds (kind_of_field f) (stored_kind (kind_of_field g)) (not-false (same_kind (kind_of_field f) (stored_kind (kind_of_field g))) kinds.1)
          ∙ ap stored_kind (sym (same_kinds c.kind (kind_of_field g) (not-false (same_kind c.kind (kind_of_field g)) two.0))),
      same-kinds fields given columns (omega (arith, m)) (omega (arith, n)) one.1 two.1,
    )

-- A column under its field, with the place of both.
pub record Suits (u : Table) (e : ℕ × FieldShape) (c : Seen) : Type 0 where
  pub kind : kind_of_field e.1 ≡ stored_kind c.kind
  pub items : column u e.0 ≡ c.items
  pub typed : All (IsItemOf c.kind) c.items

abbrev pub AreTyped : List Seen → Type 0
AreTyped columns = All (λ (c : Seen). All (IsItemOf c.kind) c.items) columns

suits-from : (u : Table) (n : ℕ) (fields : List FieldShape) (columns : List Seen) → AllZip SameKind fields columns → AreTyped columns
    → ((k : ℕ) (d : Seen) → k < length columns → column u (n + k) ≡ (get_or columns k d).items) → AllZip (Suits u) (enumerate_from n fields) columns
suits-from u n [] [] same typed at = tt
suits-from u n [] (c ∷ columns) same typed at = absurd same
suits-from u n (f ∷ fields) [] same typed at = absurd same
suits-from u n (f ∷ fields) (c ∷ columns) same typed at =
    let here : n ≡ n + 0 = omega arith in (
      record { kind = same.0; items = ap (column u) here ∙ at 0 c (omega arith); typed = typed 0 c (omega arith) },
      suits-from u (n + 1) fields columns same.1 (λ k d below. typed (suc k) d (omega (arith, below)))
          (λ k d below. let there : n + 1 + k ≡ n + suc k = omega arith in ap (column u) there ∙ at (suc k) d (omega (arith, below))),
    )

abbrev pub AllSuit : Table → List (ℕ × FieldShape) → List Seen → Type 0
AllSuit u es columns = AllZip (Suits u) es columns

-- ---- the columns of a batch

none-of-two : {A : Type 0} (o p : Option A) → first (o ∷ p ∷ []) ≡ None → (o ≡ None) × (p ≡ None)
none-of-two None None h = (refl, refl)
none-of-two None (Some x) h = absurd cc
none-of-two (Some x) p h = absurd cc

same-count : (b : Bool) (n : ℕ) → cond b None (Some n) ≡ None → b ≡ true
same-count true n h = refl
same-count false n h = absurd cc

same-fields : (fields : List FieldShape) (b : Batch) → difference fields b.fields ≡ None → batch_fault b.fields b.rows b.columns ≡ None → AllZip SameKind fields b.columns
same-fields fields b alike lawful =
    let is = whole b.fields b.rows b.columns lawful in
    let parts = none-of-two (position differs (zip fields b.fields)) (cond (eqb (length fields) (length b.fields)) None (Some (length (zip fields b.fields)))) alike in
    same-kinds fields b.fields b.columns
    (eqb-true (length fields) (length b.fields) (same-count (eqb (length fields) (length b.fields)) (length (zip fields b.fields)) parts.1))
    is.count (among_missing differs (zip fields b.fields) parts.0) is.kinds

pub suits-batch : (fields : List FieldShape) (b : Batch) → difference fields b.fields ≡ None → batch_fault b.fields b.rows b.columns ≡ None → AreTyped b.columns
    → AllSuit (rows_of b) (enumerate_from 0 fields) b.columns
suits-batch fields b alike lawful typed =
    suits-from (rows_of b) 0 fields b.columns (same-fields fields b alike lawful) typed
    (λ k d below.
    let there : 0 + k ≡ k = omega arith in
    ap (column (rows_of b)) there ∙ (HasColumns-rows_of b lawful).each k d below)

-- ---- the rows are of the fields

typed-stored : (k : Kind) (x : Item) → IsItemOf k x → IsItemOf (stored_kind k) x
typed-stored (kind.texts Narrow) null is = tt
typed-stored (kind.texts Narrow) (text t) is = is
typed-stored (kind.texts Narrow) (int z) is = absurd is
typed-stored (kind.texts Narrow) (boolean b) is = absurd is
typed-stored (kind.texts Narrow) (list l) is = absurd is
typed-stored (kind.texts Wide) x is = is
typed-stored (kind.int t) x is = is
typed-stored kind.boolean x is = is
typed-stored (kind.lists w k) x is = is
typed-stored kind.dict x is = is

typed-at : (k : Kind) (items : List Item) (i : ℕ) → All (IsItemOf k) items → IsItemOf k (get_or items i null)
typed-at k [] i typed = tt
typed-at k (x ∷ items) zero typed = typed 0 x (omega arith)
typed-at k (x ∷ items) (suc i) typed = typed-at k items i (λ j d below. typed (suc j) d (omega (arith, below)))

typed-row : (i : ℕ) (fields : List FieldShape) (columns : List Seen) → AllZip SameKind fields columns → AreTyped columns → IsRowOf fields (row_of columns i)
typed-row i [] [] same typed = tt
typed-row i [] (c ∷ columns) same typed = absurd same
typed-row i (f ∷ fields) [] same typed = absurd same
typed-row i (f ∷ fields) (c ∷ columns) same typed = (
  subst (λ k. IsItemOf k (get_or c.items i null)) (sym same.0) (typed-stored c.kind (get_or c.items i null) (typed-at c.kind c.items i (typed 0 c (omega arith)))),
  typed-row i fields columns same.1 (λ j d below. typed (suc j) d (omega (arith, below))),
)

pub typed-rows : (fields : List FieldShape) (b : Batch) → difference fields b.fields ≡ None → batch_fault b.fields b.rows b.columns ≡ None → AreTyped b.columns → IsTableOf fields (rows_of b)
typed-rows fields b alike lawful typed =
    All-map (IsRowOf fields) (row_of b.columns) (range_with_len 0 b.rows)
    (λ j d below. typed-row (get_or (range_with_len 0 b.rows) j d) fields b.columns (same-fields fields b alike lawful) typed)

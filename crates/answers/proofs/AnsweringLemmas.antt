-- The rows of batches, one batch after the other.
use Rattle.std.proofs.Common.{◌≡◌, ◌∙◌, ℕ, ◌+◌, ◌<◌, ◌≤◌, Bool, true, false, not, cond, List, [], ◌∷◌, ◌++◌, length, map, filter, take, drop, get_or, position, Option, Some, None, All, refl, sym, ap, subst, arith, length-append, take-append-drop}
use Rattle.std.specs.Prelude.{is_none, unwrap_or}
use Rattle.std.specs.List.{position_or_len}
use Rattle.std.proofs.lemmas.Bool.{le-ltb, lt-ltb}
use Rattle.std.proofs.lemmas.Grind.{flat_map-append}
use Rattle.std.proofs.lemmas.List.{append-nil, get_or-map, take_more}
use Rattle.std.proofs.lemmas.List.Elements.{All-get_or, All-head, All-tail}
use mathlib.Core.Path.{fun_ext}
use Rattle.arrays.specs.Prelude.{Batch, FieldShape, Row, Table, kind_of_field, rows_of}
use Rattle.query.specs.Prelude.{Tree, query_shape}
use Rattle.query.specs.declared.queries.Query.{Query}
use Rattle.answers.specs.Prelude.{HasKept, IsGrouped, all_rows, is_bad, is_kept, verdict, verdict_of}
use Rattle.tallies.specs.Columns.{show_column}
use Rattle.answers.specs.declared.grouping.Grouping.{Grouping}
use Rattle.answers.proofs.FieldLemmas.{same_sorts, same_value}
use Rattle.answers.proofs.RunLemmas.{length-rows}

-- ---- the first place where a test passes

module _ (p : Row → Bool) where
  not_found : (xs : Table) → All (λ x. p x ≡ false) xs → position_or_len p xs ≡ length xs
  not_found [] h = refl
  not_found (x ∷ xs) h =
      ap (λ b. cond (not b) (1 + position_or_len p xs) 0) (All-head (λ x. p x ≡ false) x xs h)
      ∙ omega (arith, not_found xs (All-tail (λ x. p x ≡ false) x xs h))

  found_at : (front rest : Table) (x : Row) → All (λ x. p x ≡ false) front → p x ≡ true → position_or_len p (front ++ x ∷ rest) ≡ length front
  found_at [] rest x h passes = ap (λ b. cond (not b) (1 + position_or_len p rest) 0) passes
  found_at (y ∷ front) rest x h passes =
      ap (λ b. cond (not b) (1 + position_or_len p (front ++ x ∷ rest)) 0) (All-head (λ x. p x ≡ false) y front h)
      ∙ omega (arith, found_at front rest x (All-tail (λ x. p x ≡ false) y front h) passes)

  pub nowhere : (xs : Table) → All (λ x. p x ≡ false) xs → position p xs ≡ None
  nowhere xs h = ap (λ b. cond b (Some (position_or_len p xs)) None) (le-ltb (position_or_len p xs) (length xs) (omega (arith, not_found xs h)))

  pub first_at : (front rest : Table) (x : Row) → All (λ x. p x ≡ false) front → p x ≡ true → position p (front ++ x ∷ rest) ≡ Some (length front)
  first_at front rest x h passes =
      let n = found_at front rest x h passes in
      ap (λ b. cond b (Some (position_or_len p (front ++ x ∷ rest))) None)
      (lt-ltb (position_or_len p (front ++ x ∷ rest)) (length (front ++ x ∷ rest)) (omega (arith, n, length-append front (x ∷ rest))))
      ∙ ap Some n

-- ---- batches of the same types

module _ (fs gs : List FieldShape) (same : map kind_of_field fs ≡ map kind_of_field gs) (f : Option (Tree ℕ)) where
  by_row : (o : Option (Tree ℕ)) (row : Row) → verdict fs o row ≡ verdict gs o row
  by_row None row = refl
  by_row (Some t) row = ap verdict_of (same_value fs gs (fun_ext (same_sorts fs gs same)) row t)

  verdicts : verdict fs f ≡ verdict gs f
  verdicts = fun_ext (by_row f)

  pub bad_alike : (row : Row) → is_bad fs f row ≡ is_bad gs f row
  bad_alike row = ap is_none (by_row f row)

  pub kept_alike : is_kept fs f ≡ is_kept gs f
  kept_alike = ap {B = Row → Bool} (λ v row. unwrap_or (v row) false) verdicts

pub has_kept_alike : (fs gs : List FieldShape) (q : Query) (rows : Table) (g : Grouping) → map kind_of_field fs ≡ map kind_of_field gs → HasKept fs q rows g → HasKept gs q rows g
has_kept_alike fs gs q rows g same h =
    (subst (λ (p : Row → Bool). IsGrouped q.by.items q.aggs.items (filter p rows) g.keys (map show_column g.columns.items)) (kept_alike fs gs same (query_shape q).filter) h.0, h.1)

-- ---- the next batch

pub mapped_at : {A : Type 0} (f : A → Batch) (xs : List A) (i : ℕ) (x : A) (b : Batch) → i < length xs → x ≡ get_or xs i x → b ≡ f x → b ≡ get_or (map f xs) i b
mapped_at f xs i x b below is shows = shows ∙ ap f is ∙ sym (get_or-map f xs i x b below)

pub at_next : (P : Batch → Type 0) (bs : List Batch) (i : ℕ) (b : Batch) → All P bs → i < length bs → b ≡ get_or bs i b → P b
at_next P bs i b all below is = subst P (sym is) (All-get_or P bs i b below all)

module _ (bs : List Batch) (i : ℕ) (b : Batch) (below : i < length bs) (is : b ≡ get_or bs i b) where
  pub rows_next : all_rows (take (i + 1) bs) ≡ all_rows (take i bs) ++ rows_of b
  rows_next =
      ap all_rows (take_more bs i b below ∙ ap (λ c. take i bs ++ c ∷ []) (sym is))
      ∙ flat_map-append rows_of (take i bs) (b ∷ [])
      ∙ ap (λ l. all_rows (take i bs) ++ l) (append-nil (rows_of b))

  pub rows_split : all_rows bs ≡ (all_rows (take i bs) ++ rows_of b) ++ all_rows (drop (i + 1) bs)
  rows_split =
      ap all_rows (sym (take-append-drop (i + 1) bs))
      ∙ flat_map-append rows_of (take (i + 1) bs) (drop (i + 1) bs)
      ∙ ap (λ l. l ++ all_rows (drop (i + 1) bs)) rows_next

  pub few_next : (m : ℕ) → length (all_rows bs) ≤ m → length (all_rows (take i bs)) + b.rows ≤ m
  few_next m few =
      omega (
        arith,
        few,
        ap length rows_split,
        length-append (all_rows (take i bs) ++ rows_of b) (all_rows (drop (i + 1) bs)),
        length-append (all_rows (take i bs)) (rows_of b),
        length-rows b,
      )

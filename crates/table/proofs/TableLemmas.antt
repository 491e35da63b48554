-- A lawful table with one batch more.
use Rattle.std.proofs.Common.{◌≡◌, ◌∙◌, inl, inr, ℕ, ◌+◌, ◌<◌, ◌≤◌, ◌^◌, List, [], ◌∷◌, ◌++◌, length, map, Option, None, Some, Bool, true, false, cond, ap, sym, refl, subst, arith, length-append}
use Rattle.std.specs.Prelude.{slice_index_or, ⊤}
use Rattle.std.specs.List.{AllZip, enumerate_from}
use mathlib.Core.List.{IsPrefix}
use Rattle.std.proofs.Math.Nat.{eq-or-lt_of_le}
use Rattle.std.proofs.lemmas.List.{append-nil, map-append, take-append-le, take_all}
use Rattle.std.proofs.lemmas.List.Elements.{All-push}
use Rattle.std.proofs.lemmas.List.Sums.{sum_by-append}
use Rattle.std.proofs.lemmas.Grind.{flat_map-append}
use Rattle.arrays.specs.Prelude.{Batch, FieldShape, Item, Seen, Table, boolean, column, int, list, null, rows_of, shown, text}
use Rattle.arrays.specs.Kind as kind
use Rattle.answers.proofs.ColumnsLemmas.{all_zip-push}
use Rattle.answers.specs.Prelude.{ColumnStats}
use Rattle.pool.specs.Texts.{firsts, texts_of}
use Rattle.pool.proofs.TextLemmas.{beyond, firsts-append}
use Rattle.compaction.specs.Prelude.{AreStatsOf, NamesFront}
use Rattle.table.specs.Prelude.{EndsWithEntry, IsStored, LawfulTable, book_rows, dictionaries_of, dictionary_in, is_text_field, rows_of_batches, texts_in}
use Rattle.table.proofs.FrontLemmas.{prefix_trans}

pub table_of-push : (batches : List Batch) (b : Batch) → rows_of_batches (batches ++ b ∷ []) ≡ rows_of_batches batches ++ rows_of b
table_of-push batches b = flat_map-append rows_of batches (b ∷ []) ∙ ap (λ t. rows_of_batches batches ++ t) (append-nil (rows_of b))

pub counted-push : (entries : List (ℕ × ℕ)) (e : ℕ × ℕ) → book_rows (entries ++ e ∷ []) ≡ book_rows entries + e.1
counted-push entries e = omega (arith, sum_by-append (λ (p : ℕ × ℕ). p.1) entries (e ∷ []))

-- each front of the batches ends where an entry ends
ends-push : (batches : List Batch) (entries : List (ℕ × ℕ)) (b : Batch) (worker : ℕ) → ((i : ℕ) → i ≤ length batches → EndsWithEntry batches entries i)
    → book_rows entries ≡ length (rows_of_batches batches) → (i : ℕ) → i ≤ length (batches ++ b ∷ [])
    → EndsWithEntry (batches ++ b ∷ []) (entries ++ (worker, length (rows_of b)) ∷ []) i
ends-push batches entries b worker ends counts i within =
    elim (eq-or-lt_of_le within) [
      | inl eq ↦ last (omega (arith, eq, length-append batches (b ∷ [])))
      | inr lt ↦ old (omega (arith, lt, length-append batches (b ∷ [])))
    ]
  where
    old : i ≤ length batches → EndsWithEntry (batches ++ b ∷ []) (entries ++ (worker, length (rows_of b)) ∷ []) i
    old le =
        let at = ends i le in
        record {
          entries = at.entries;
          each = at.each;
          within = omega (arith, at.within, length-append entries ((worker, length (rows_of b)) ∷ []));
          same =
              ap (λ (l : List Batch). length (rows_of_batches l)) (take-append-le i batches (b ∷ []) le)
              ∙ at.same
              ∙ ap book_rows (sym (take-append-le at.entries entries ((worker, length (rows_of b)) ∷ []) at.within));
        }

    last : length batches < i → EndsWithEntry (batches ++ b ∷ []) (entries ++ (worker, length (rows_of b)) ∷ []) i
    last gt = let before = ends (length batches) (omega arith) in record {
      entries = length entries + 1;
      each = omega (arith, within, length-append batches (b ∷ []), before.each, before.within);
      within = omega (arith, length-append entries ((worker, length (rows_of b)) ∷ []));
      same =
          ap (λ (l : List Batch). length (rows_of_batches l)) (take_all i (batches ++ b ∷ []) (omega (arith, gt, length-append batches (b ∷ []))))
          ∙ ap (λ (t : Table). length t) (table_of-push batches b)
          ∙ length-append (rows_of_batches batches) (rows_of b)
          ∙ ap (λ n. n + length (rows_of b)) (sym counts)
          ∙ sym (counted-push entries (worker, length (rows_of b)))
          ∙ ap book_rows (sym (take_all (length entries + 1) (entries ++ (worker, length (rows_of b)) ∷ []) (omega (arith, length-append entries ((worker, length (rows_of b)) ∷ [])))));
    }

-- ---- dictionaries that grow

-- the first dictionary begins the second
abbrev pub Grows : Option Seen → Option Seen → Type 0
Grows None None = ⊤
Grows None (Some e) = ⊥
Grows (Some d) None = ⊤
Grows (Some d) (Some e) = IsPrefix d.items e.items

front-longer : (c : Seen) (d e : Option Seen) → NamesFront c d → Grows d e → NamesFront c e
front-longer c None None names begins = tt
front-longer c None (Some e) names begins = absurd begins
front-longer c (Some d) None names begins = tt
front-longer c (Some d) (Some e) names begins =
    prefix_trans c.entries.items d.items e.items names begins

pub fronts-longer : (columns : List Seen) (old new : List (Option Seen)) → AllZip Grows old new → AllZip NamesFront columns old → AllZip NamesFront columns new
fronts-longer [] [] [] begins names = tt
fronts-longer [] [] (e ∷ new) begins names = absurd begins
fronts-longer [] (d ∷ old) new begins names = absurd names
fronts-longer (c ∷ columns) [] new begins names = absurd names
fronts-longer (c ∷ columns) (d ∷ old) [] begins names = absurd begins
fronts-longer (c ∷ columns) (d ∷ old) (e ∷ new) begins names = (front-longer c d e names.0 begins.0, fronts-longer columns old new begins.1 names.1)

pub column-append : (t u : Table) (k : ℕ) → column (t ++ u) k ≡ column t k ++ column u k
column-append t u k = map-append (λ row. slice_index_or row k null) t u

pub texts_of-append : (xs ys : List Item) → texts_of (xs ++ ys) ≡ texts_of xs ++ texts_of ys
texts_of-append [] ys = refl
texts_of-append (null ∷ xs) ys = texts_of-append xs ys
texts_of-append (int z ∷ xs) ys = texts_of-append xs ys
texts_of-append (boolean b ∷ xs) ys = texts_of-append xs ys
texts_of-append (text t ∷ xs) ys = ap (λ l. t ∷ l) (texts_of-append xs ys)
texts_of-append (list l ∷ xs) ys = texts_of-append xs ys

-- what a column of texts has beside those that it had
abbrev rest_of : Bool → List (List ℕ) → List (List ℕ) → List (List ℕ)
rest_of true ts us = beyond ts (firsts us)
rest_of false ts us = []

firsts-if : (b : Bool) (ts us : List (List ℕ)) → cond b (firsts (ts ++ us)) [] ≡ cond b (firsts ts) [] ++ rest_of b ts us
firsts-if true ts us = firsts-append ts us
firsts-if false ts us = refl

texts_in-append : (t u : Table) (k : ℕ) (f : FieldShape) → texts_in (t ++ u) (k, f) ≡ texts_in t (k, f) ++ rest_of (is_text_field f) (texts_of (column t k)) (texts_of (column u k))
texts_in-append t u k f =
    ap (λ (l : List Item). cond (is_text_field f) (firsts (texts_of l)) []) (column-append t u k)
    ∙ ap (λ l. cond (is_text_field f) (firsts l) []) (texts_of-append (column t k) (column u k))
    ∙ firsts-if (is_text_field f) (texts_of (column t k)) (texts_of (column u k))

begins-if : (b : Bool) (xs ys zs : List (List ℕ)) → ys ≡ xs ++ zs → Grows (cond b (Some (shown kind.utf8 (map text xs))) None) (cond b (Some (shown kind.utf8 (map text ys))) None)
begins-if false xs ys zs more = tt
begins-if true xs ys zs more =
    (map text zs, sym (ap (map text) more ∙ map-append text xs zs))

begin-from : (n : ℕ) (fields : List FieldShape) (t u : Table) → AllZip Grows (map (dictionary_in t) (enumerate_from n fields)) (map (dictionary_in (t ++ u)) (enumerate_from n fields))
begin-from n [] t u = tt
begin-from n (f ∷ fields) t u = (
  begins-if (is_text_field f) (texts_in t (n, f)) (texts_in (t ++ u) (n, f)) (rest_of (is_text_field f) (texts_of (column t n)) (texts_of (column u n))) (texts_in-append t u n f),
  begin-from (n + 1) fields t u,
)

pub dictionaries-begin : (fields : List FieldShape) (t u : Table) → AllZip Grows (dictionaries_of fields t) (dictionaries_of fields (t ++ u))
unfolding dictionaries_of
dictionaries-begin fields t u = begin-from 0 fields t u

-- ---- one batch more

pub Lawful-push : (fields : List FieldShape) (batches : List Batch) (pieces : List (List ColumnStats)) (stats : List ColumnStats) (dictionaries : List (Option Seen)) (entries : List (ℕ × ℕ))
    → LawfulTable fields batches pieces stats dictionaries entries
    → (b : Batch) (piece next : List ColumnStats) (grown : List (Option Seen)) (worker count : ℕ)
    → IsStored fields b → AreStatsOf fields (rows_of b) piece → AreStatsOf fields (rows_of_batches batches ++ rows_of b) next → grown ≡ dictionaries_of fields (rows_of_batches batches ++ rows_of b)
    → AllZip NamesFront b.columns grown → count ≡ length (rows_of b) → book_rows entries + count ≤ 2 ^ 40 → length entries + 1 < 2 ^ 32
    → LawfulTable fields (batches ++ b ∷ []) (pieces ++ piece ∷ []) next grown (entries ++ (worker, count) ∷ [])
Lawful-push fields batches pieces stats dictionaries entries is b piece next grown worker count stored of_piece of_all texts front size few short =
    let t = rows_of_batches batches in
    let more = table_of-push batches b in
    record {
      stored = All-push (IsStored fields) batches b is.stored stored;
      ends =
          subst (λ n. (i : ℕ) → i ≤ length (batches ++ b ∷ []) → EndsWithEntry (batches ++ b ∷ []) (entries ++ (worker, n) ∷ []) i) (sym size)
          (ends-push batches entries b worker is.ends is.counts);
      some = λ entry. omega (arith, length-append batches (b ∷ []));
      counts = counted-push entries (worker, count) ∙ ap (λ n. n + count) is.counts ∙ ap (λ n. length t + n) size ∙ sym (length-append t (rows_of b)) ∙ ap (λ (u : Table). length u) (sym more);
      few = omega (arith, few, counted-push entries (worker, count));
      short = omega (arith, short, length-append entries ((worker, count) ∷ []));
      texts = texts ∙ ap (dictionaries_of fields) (sym more);
      fronts =
          All-push (λ (c : Batch). AllZip NamesFront c.columns grown) batches b
          (λ k d below.
          fronts-longer (slice_index_or batches k d).columns dictionaries grown
          (subst (λ (g : List (Option Seen)). AllZip Grows dictionaries g) (sym texts)
          (subst (λ (g : List (Option Seen)). AllZip Grows g (dictionaries_of fields (t ++ rows_of b))) (sym is.texts) (dictionaries-begin fields t (rows_of b))))
          (is.fronts k d below))
          front;
      statistics = subst (λ (u : Table). AreStatsOf fields u next) (sym more) of_all;
      parts = all_zip-push (λ (c : Batch) (s : List ColumnStats). AreStatsOf fields (rows_of c) s) batches pieces b piece is.parts of_piece;
    }

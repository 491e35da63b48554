-- A table some of whose batches moved to longer dictionaries.
use Rattle.std.proofs.Common.{◌≡◌, ◌∙◌, ℕ, zero, suc, ◌-◌, ◌≤◌, List, [], ◌∷◌, ◌++◌, length, map, take, drop, All, Option, ap, sym, refl, subst, arith}
use Rattle.std.specs.Arc.{arc_value}
use Rattle.std.specs.List.{AllZip}
use Rattle.std.specs.declared.alloc.Global.{Global}
use Rattle.std.specs.declared.sync.Arc.{Arc}
use Rattle.std.proofs.lemmas.List.{append-nil, drop-map, length-drop, length-map, map-append, take-map, take_all}
use Rattle.std.proofs.lemmas.List.Elements.{All-drop, All-head, All-tail}
use Rattle.std.proofs.lemmas.Slice.Zip.{AllZip-long}
use Rattle.arrays.specs.Prelude.{Batch, FieldShape, Seen, Table, rows_of}
use Rattle.answers.specs.Prelude.{ColumnStats}
use Rattle.compaction.proofs.JoinedLemmas.{all_zip-all}
use Rattle.compaction.specs.Prelude.{AreStatsOf, IsUnder, NamesFront}
use Rattle.table.specs.Prelude.{AreMoved, IsMoved, IsStored, LawfulTable, dictionaries_of, null_cause, rows_of_batches, with_last}

-- ---- lists

pub with_last-map : {A B : Type 0} (f : A → B) (xs last : List A) → map f (with_last xs last) ≡ with_last (map f xs) (map f last)
with_last-map f xs last =
    map-append f (take (length xs - length last) xs) last
    ∙ ap (λ l. l ++ map f last) (sym (take-map f (length xs - length last) xs))
    ∙ ap (λ n. take (n - length last) (map f xs) ++ map f last) (sym (length-map xs f))
    ∙ ap (λ n. take (length (map f xs) - n) (map f xs) ++ map f last) (sym (length-map last f))

-- and one behind them
pub put-last : {A B : Type 0} (f : A → B) (xs last ys zs : List A) (x : A) → ys ≡ with_last xs last → zs ≡ ys ++ x ∷ [] → map f zs ≡ with_last (map f xs) (map f last) ++ f x ∷ []
put-last f xs last ys zs x replaced pushed =
    ap (map f) (pushed ∙ ap (λ l. l ++ x ∷ []) replaced) ∙ map-append f (with_last xs last) (x ∷ []) ∙ ap (λ l. l ++ f x ∷ []) (with_last-map f xs last)

-- the last of a list, as they are sliced
pub slice-last : {A : Type 0} (n : ℕ) (xs : List A) → take (length xs - n) (drop n xs) ≡ drop n xs
slice-last n xs = take_all (length xs - n) (drop n xs) (omega (arith, length-drop n xs))

-- ---- batches that moved

module _ (fields : List FieldShape) (dictionaries : List (Option Seen)) where
  abbrev Moved : Batch → Batch → Type 0
  Moved = IsMoved fields dictionaries

  pub moved-self : (b : Batch) → IsUnder fields dictionaries b → IsMoved fields dictionaries b b
  moved-self b under = record { under = under; rows = refl }

  selves : (batches : List Batch) → All (IsUnder fields dictionaries) batches → AllZip Moved batches batches
  selves [] under = tt
  selves (b ∷ batches) under = (
    moved-self b (All-head (IsUnder fields dictionaries) b batches under),
    selves batches (All-tail (IsUnder fields dictionaries) b batches under),
  )

  moved-from : (n : ℕ) (batches moved : List Batch) → All (IsUnder fields dictionaries) batches → AllZip Moved (drop n batches) moved → AllZip Moved batches (take n batches ++ moved)
  moved-from zero batches moved under all = all
  moved-from (suc n) [] moved under all = all
  moved-from (suc n) (b ∷ batches) moved under all = (
    moved-self b (All-head (IsUnder fields dictionaries) b batches under),
    moved-from n batches moved (All-tail (IsUnder fields dictionaries) b batches under) all,
  )

  -- those from one on
  pub moved-all : (n : ℕ) (batches moved : List Batch) → n ≤ length batches → All (IsUnder fields dictionaries) batches → AllZip Moved (drop n batches) moved → AreMoved fields dictionaries batches moved
  moved-all n batches moved within under all =
      let count : length moved ≡ length batches - n = AllZip-long Moved (drop n batches) moved all ∙ length-drop n batches in
      let at : length batches - length moved ≡ n = omega (arith, count, within) in
      record {
        few = omega (arith, count);
        same = subst (λ m. AllZip Moved batches (take m batches ++ moved)) (sym at) (moved-from n batches moved under all);
      }

  pub under-last : (n : ℕ) (shared : List (Arc Batch Global)) → All (IsUnder fields dictionaries) (map arc_value shared) → All (IsUnder fields dictionaries) (map arc_value (take (length shared - n) (drop n shared)))
  under-last n shared under =
      subst (All (IsUnder fields dictionaries)) (drop-map arc_value n shared ∙ ap (map arc_value) (sym (slice-last n shared))) (All-drop (IsUnder fields dictionaries) n (map arc_value shared) under)

  pub moved-last : (n : ℕ) (shared : List (Arc Batch Global)) (moved : List Batch) → n ≤ length shared → All (IsUnder fields dictionaries) (map arc_value shared)
      → AllZip Moved (map arc_value (take (length shared - n) (drop n shared))) moved → AreMoved fields dictionaries (map arc_value shared) moved
  moved-last n shared moved within under all =
      moved-all n (map arc_value shared) moved (omega (arith, within, length-map shared (λ (b : Arc Batch Global). arc_value b))) under
      (subst (λ l. AllZip Moved l moved) (ap (map arc_value) (slice-last n shared) ∙ sym (drop-map arc_value n shared)) all)

  -- none
  pub moved-none : (batches : List Batch) → All (IsUnder fields dictionaries) batches → AreMoved fields dictionaries batches []
  moved-none batches under = record {
    few = omega arith;
    same = subst (AllZip Moved batches) (sym (append-nil (take (length batches - 0) batches) ∙ take_all (length batches - 0) batches (omega arith))) (selves batches under);
  }

  -- ---- what stays

  pub table-moved : (batches others : List Batch) → AllZip Moved batches others → rows_of_batches others ≡ rows_of_batches batches
  table-moved [] [] all = refl
  table-moved [] (c ∷ others) all = absurd all
  table-moved (b ∷ batches) [] all = absurd all
  table-moved (b ∷ batches) (c ∷ others) all =
      ap (λ (t : Table). t ++ rows_of_batches others) all.0.rows ∙ ap (λ (t : Table). rows_of b ++ t) (table-moved batches others all.1)

  pub tables-moved : (batches others : List Batch) → AllZip Moved batches others → map rows_of others ≡ map rows_of batches
  tables-moved [] [] all = refl
  tables-moved [] (c ∷ others) all = absurd all
  tables-moved (b ∷ batches) [] all = absurd all
  tables-moved (b ∷ batches) (c ∷ others) all =
      ap (λ (t : Table). t ∷ map rows_of others) all.0.rows ∙ ap (λ l. rows_of b ∷ l) (tables-moved batches others all.1)

  take-moved : (i : ℕ) (batches others : List Batch) → AllZip Moved batches others → AllZip Moved (take i batches) (take i others)
  take-moved zero batches others all = tt
  take-moved (suc i) [] [] all = tt
  take-moved (suc i) [] (c ∷ others) all = absurd all
  take-moved (suc i) (b ∷ batches) [] all = absurd all
  take-moved (suc i) (b ∷ batches) (c ∷ others) all = (all.0, take-moved i batches others all.1)

  parts-moved : (batches others : List Batch) (pieces : List (List ColumnStats)) → AllZip Moved batches others
      → AllZip (λ b s. AreStatsOf fields (rows_of b) s) batches pieces → AllZip (λ b s. AreStatsOf fields (rows_of b) s) others pieces
  parts-moved [] [] pieces all parts = parts
  parts-moved [] (c ∷ others) pieces all parts = absurd all
  parts-moved (b ∷ batches) [] pieces all parts = absurd all
  parts-moved (b ∷ batches) (c ∷ others) [] all parts = absurd parts
  parts-moved (b ∷ batches) (c ∷ others) (s ∷ pieces) all parts = (
    subst (λ (t : Table). AreStatsOf fields t s) (sym all.0.rows) parts.0,
    parts-moved batches others pieces all.1 parts.1,
  )

  pub Lawful-moved : (batches others : List Batch) (pieces : List (List ColumnStats)) (stats : List ColumnStats) (entries : List (ℕ × ℕ)) → AllZip Moved batches others
      → LawfulTable fields batches pieces stats dictionaries entries → LawfulTable fields others pieces stats dictionaries entries
  Lawful-moved batches others pieces stats entries all is =
      let same = table-moved batches others all in
      let many : length others ≡ length batches = AllZip-long Moved batches others all in
      record {
        stored =
            all_zip-all Moved (IsStored fields) (IsStored fields)
            (λ b c stored moved. record {
              same = moved.under.same;
              lawful = moved.under.lawful;
              nulls = ap (λ (t : Table). null_cause fields t) moved.rows ∙ stored.nulls;
            })
            batches others all is.stored;
        ends = λ i within. let at = is.ends i (omega (arith, within, many)) in record {
          entries = at.entries;
          each = at.each;
          within = at.within;
          same = ap (λ (t : Table). length t) (table-moved (take i batches) (take i others) (take-moved i batches others all)) ∙ at.same;
        };
        some = λ entry. omega (arith, is.some entry, many);
        counts = is.counts ∙ ap (λ (t : Table). length t) (sym same);
        few = is.few;
        short = is.short;
        texts = is.texts ∙ ap (dictionaries_of fields) (sym same);
        fronts =
            all_zip-all Moved (λ b. AllZip NamesFront b.columns dictionaries) (λ c. AllZip NamesFront c.columns dictionaries)
            (λ b c fronts moved. moved.under.fronts)
            batches others all is.fronts;
        statistics = subst (λ (t : Table). AreStatsOf fields t stats) (sym same) is.statistics;
        parts = parts-moved batches others pieces all is.parts;
      }

-- A batch ready to be put into a table.
use Rattle.std.proofs.Common.{◌≡◌, ◌∙◌, ℕ, List, [], ◌∷◌, All, ◌++◌, length, map, Option, None, Some, option_map, ap, sym, subst, arith, inl, inr}
use Rattle.std.specs.Prelude.{Result, Ok, Err, IfErr, IsErrAnd, ◌⊎◌, slice_index_or}
use Rattle.std.specs.Arc.{arc_value}
use Rattle.std.specs.List.{AllZip, enumerate_from, zip}
use Rattle.arrays.specs.Prelude.{Batch, FieldShape, Seen, Table, batch_fault, rows_of}
use Rattle.answers.specs.Prelude.{AreJoined, AreTheirs, ColumnStats}
use Rattle.table.specs.Prelude.{AreMoved, ArePools, IsAdditionOf, IsConsistent, batch_cause, batches_of, book_of, dictionaries_in, dictionaries_of, dictionary_for, difference, early_cause, full_cause, grown, null_cause, pieces_in, rows_of_batches, show, stored_seen, texts_in}
use Rattle.compaction.specs.Prelude.{AreStatsOf, IsDictionary, IsUnder, NamesFront, pieces_of}
use Rattle.table.specs.declared.change.Addition.{Addition}
use Rattle.table.specs.declared.storage.Storage.{Storage}
use Rattle.table.specs.declared.refusal.Refusal.{Refusal}
use Rattle.table.specs.declared.refusal.Refusal.TheVariants.{NoMemory}
use Rattle.table.proofs.JoinedLemmas.{dictionaries-all, storage-under}
use Rattle.table.proofs.StorageLemmas.{rows-shown}
use Rattle.table.proofs.TableLemmas.{Grows, dictionaries-begin, fronts-longer}
use Rattle.table.proofs.EarlyLemmas.{early-none, few-rows, late-cause}
use Rattle.table.proofs.GrownLemmas.{count-all, dictionary-all, full-cause, grown-all}
use Rattle.table.proofs.KeptLemmas.{IsFew, Kept, few-all, front-all, joined-all, kept-all, kept-lawful, kept-rows, same-many, theirs-all}
use Rattle.table.proofs.SuitLemmas.{AllSuit, AreTyped, suits-batch, typed-rows}

pub some-none : {X : Type 0} (o : Option X) (x : X) → o ≡ Some x → o ≡ None → ⊥
some-none o x some none = cc

-- A refusal reported of the columns is reported of the batch.
pub reported : {T : Type 0} (r : Result T Refusal) (e : Refusal) (o p : Option Refusal) → IsErrAnd r (λ x. x ≡ e) → (e ≡ NoMemory) ⊎ (o ≡ Some e) → o ≡ p
    → IfErr r (λ x. (x ≡ NoMemory) ⊎ (p ≡ Some x))
reported (Ok v) e o p same found is = tt
reported (Err x) e o p same found is = elim found [ inl h ↦ inl (same ∙ h) | inr h ↦ inr (sym is ∙ h ∙ ap (λ y. Some y) (sym same)) ]

module _ (h : Storage) (b : Batch) (is : IsConsistent h) (early : early_cause (arc_value h.schema) (show h).history b ≡ None)
    (lawful : batch_fault b.fields b.rows b.columns ≡ None) (typed : AreTyped b.columns)
    (pools : List (List (List ℕ))) (are : ArePools h (rows_of_batches (batches_of h)) pools) (columns : List Seen) (same : columns ≡ b.columns) where
  abbrev fields : List FieldShape
  fields = arc_value h.schema

  abbrev before : Table
  before = rows_of_batches (batches_of h)

  abbrev places : List (ℕ × FieldShape)
  places = enumerate_from 0 (arc_value h.schema)

  free : (difference fields b.fields ≡ None) × (null_cause fields (rows_of b) ≡ None)
  free = early-none fields (show h).history b early

  all : AllSuit (rows_of b) places b.columns
  all = suits-batch fields b free.0 lawful typed

  paired : zip pools columns ≡ zip (map (texts_in before) places) b.columns
  paired = ap (λ l. zip l columns) are ∙ ap (λ (l : List Seen). zip (map (texts_in before) places) l) same

  pub pools-count : length pools ≡ length columns
  pools-count = ap (λ (l : List (List (List ℕ))). length l) are ∙ count-all before (rows_of b) places b.columns all ∙ ap (λ (l : List Seen). length l) (sym same)

  pub pools-dictionaries : map (option_map arc_value) h.dictionaries.items ≡ map dictionary_for (zip pools columns)
  unfolding dictionaries_of
  pools-dictionaries = is.lawful.texts ∙ sym (dictionary-all before (rows_of b) places b.columns all) ∙ ap (map dictionary_for) (sym paired)

  pub full-batch : full_cause pools columns ≡ batch_cause fields (show h).history b
  full-batch =
      ap (λ l. full_cause l columns) are
      ∙ ap (λ (l : List Seen). full_cause (map (texts_in before) places) l) same
      ∙ ap (λ (t : Table). full_cause (map (texts_in t) places) b.columns) (sym (rows-shown h is))
      ∙ full-cause (show h).history (rows_of b) fields b.columns all
      ∙ sym (late-cause fields (show h).history b early)

  pub pools-grown : map grown (zip pools columns) ≡ map (texts_in (before ++ rows_of b)) places
  pools-grown = ap (map grown) paired ∙ grown-all before (rows_of b) places b.columns all

  kept : AllZip (Kept (rows_of b)) places (map stored_seen (zip pools columns))
  kept = subst (λ l. AllZip (Kept (rows_of b)) places (map stored_seen l)) (sym paired) (kept-all before (rows_of b) places b.columns all)

  pub piece-ready : (stats : List ColumnStats) → AreTheirs b.columns stats → AreStatsOf fields (rows_of b) stats
  piece-ready stats theirs = theirs-all (rows_of b) places b.columns stats all theirs

  pub stats-count : (stats : List ColumnStats) → AreTheirs b.columns stats → length stats ≡ length (arc_value h.stats).items
  stats-count stats theirs = same-many before (rows_of b) places (arc_value h.stats).items stats is.lawful.statistics (piece-ready stats theirs)

  pub stats-few : (stats : List ColumnStats) → AreTheirs b.columns stats
      → AllZip IsFew (arc_value h.stats).items stats
  stats-few stats theirs =
      few-all before (rows_of b) places (arc_value h.stats).items stats is.lawful.statistics (piece-ready stats theirs)
      (omega (arith, few-rows fields (show h).history b early, ap (λ (t : Table). length t) (rows-shown h is)))

  pub stored-lawful : batch_fault fields b.rows (map stored_seen (zip pools columns)) ≡ None
  stored-lawful = kept-lawful fields b (map stored_seen (zip pools columns)) kept lawful

  words-are : (words : List (Option Seen)) → words ≡ map dictionary_for (zip (map grown (zip pools columns)) columns) → words ≡ dictionaries_of fields (before ++ rows_of b)
  unfolding dictionaries_of
  words-are words is_words =
      is_words
      ∙ ap (λ l. map dictionary_for (zip l columns)) pools-grown
      ∙ ap (λ (l : List Seen). map dictionary_for (zip (map (texts_in (before ++ rows_of b)) places) l)) same
      ∙ dictionary-all (before ++ rows_of b) (rows_of b) places b.columns all

  pub words-dictionaries : (words : List (Option Seen)) → words ≡ map dictionary_for (zip (map grown (zip pools columns)) columns) → AllZip IsDictionary fields words
  words-dictionaries words is_words = subst (AllZip IsDictionary fields) (sym (words-are words is_words)) (dictionaries-all fields (before ++ rows_of b))

  -- the batches name fronts of the longer dictionaries too
  pub words-under : (words : List (Option Seen)) → words ≡ map dictionary_for (zip (map grown (zip pools columns)) columns) → All (IsUnder fields words) (batches_of h)
  words-under words is_words = λ i c below.
      let under = storage-under h is i c below in record {
        same = under.same;
        lawful = under.lawful;
        fronts =
            fronts-longer (slice_index_or (batches_of h) i c).columns (dictionaries_in h) words
            (subst (λ (g : List (Option Seen)). AllZip Grows (dictionaries_in h) g) (sym (words-are words is_words))
            (subst (λ (g : List (Option Seen)). AllZip Grows g (dictionaries_of fields (before ++ rows_of b))) (sym is.lawful.texts) (dictionaries-begin fields before (rows_of b))))
            under.fronts;
      }

  pub ready : (worker : ℕ) (p : Addition) (piece : List ColumnStats) → full_cause pools columns ≡ None → (arc_value p.batch).fields ≡ fields → (arc_value p.batch).rows ≡ b.rows
      → (arc_value p.batch).columns ≡ map stored_seen (zip pools columns)
      → map (option_map arc_value) p.dictionaries.items ≡ map dictionary_for (zip (map grown (zip pools columns)) columns)
      → pieces_of p.batch_stats ≡ pieces_in h ++ piece ∷ []
      → AreTheirs b.columns piece
      → AreJoined (arc_value h.stats).items piece (arc_value p.stats).items
      → AreMoved fields (map (option_map arc_value) p.dictionaries.items) (batches_of h) (map arc_value p.moved.items)
      → p.book ≡ book_of h ++ (worker, b.rows) ∷ []
      → IsAdditionOf h worker b p
  ready worker p piece fits of_fields size of_columns words pieces theirs joins moved book =
      let stored = map stored_seen (zip pools columns) in
      let under : AllZip (Kept (rows_of b)) places (arc_value p.batch).columns = subst (AllZip (Kept (rows_of b)) places) (sym of_columns) kept in
      let shown_rows = kept-rows (rows_of b) places b (arc_value p.batch) all under size in
      let parts = piece-ready piece theirs in
      record {
        allowed = sym full-batch ∙ fits;
        stored = record {
          same = of_fields;
          lawful =
              ap (λ (f : List FieldShape). batch_fault f (arc_value p.batch).rows (arc_value p.batch).columns) of_fields
              ∙ ap (λ n. batch_fault fields n (arc_value p.batch).columns) size
              ∙ ap (λ (l : List Seen). batch_fault fields b.rows l) of_columns
              ∙ stored-lawful;
          nulls = ap (λ (t : Table). null_cause fields t) shown_rows ∙ free.1;
        };
        rows = shown_rows;
        typed = typed-rows fields b free.0 lawful typed;
        piece = piece;
        pieces = pieces;
        parts = parts;
        statistics = joined-all before (rows_of b) places (arc_value h.stats).items piece (arc_value p.stats).items is.lawful.statistics parts joins;
        texts = words-are (map (option_map arc_value) p.dictionaries.items) words;
        front =
            subst (λ (l : List Seen). AllZip NamesFront l (map (option_map arc_value) p.dictionaries.items)) (sym of_columns)
            (subst (AllZip NamesFront stored) (sym words) (front-all pools columns));
        moved = moved;
        book = book ∙ ap (λ n. book_of h ++ (worker, n) ∷ []) (sym size);
      }

-- The pieces of rows, put together.
use Rattle.std.proofs.Common.{◌≡◌, ◌∙◌, ℕ, ◌+◌, ◌≤◌, ◌^◌, List, ◌++◌, length, filter, All, inl, inr, sym, ap, subst, arith, length-append, zero-add}
use Rattle.std.specs.Prelude.{Ok, position}
use Rattle.std.proofs.lemmas.List.Elements.{All-append, All-filter, filter-append}
use Rattle.arrays.specs.Prelude.{FieldShape, Kind, Table}
use Rattle.query.specs.QueryShape.{query_shape}
use Rattle.query.specs.declared.fault.QueryFault.{QueryFault}
use Rattle.query.specs.declared.fault.QueryFault.TheVariants.{Overflow}
use Rattle.query.specs.declared.queries.Query.{Query}
use Rattle.answers.specs.Prelude.{GroupShape, HasGroups, HasKept, HasRun, IsGood, IsPieceRefusal, IsRefusal, between, cut_at, grouped, groups, is_bad, is_kept, rows_between, unless_bad}
use Rattle.tallies.specs.Kinds.{AreComparable}
use Rattle.evaluate.specs.Rows.{kind_at}
use Rattle.answers.specs.declared.grouping.Grouping.{Grouping}
use Rattle.answers.proofs.AnsweringLemmas.{nowhere}
use Rattle.answers.proofs.PieceLemmas.{all_between, both_parts, cuts_rise, cuts_within, first_cut, found_behind, found_in_front, front_whole, last_cut, length-between}
use Rattle.answers.proofs.RunLemmas.{kept_few}

module _ (fields : List FieldShape) (q : Query) (rows : Table) (few : length rows ≤ 2 ^ 40) (comparable : All (AreComparable (kind_at fields) q.aggs.items) rows)
    (pieces from middle to : ℕ) (one : 1 ≤ pieces) (low : from ≤ middle) (high : middle ≤ to) (within : to ≤ pieces) where
  abbrev at : ℕ → ℕ
  at place = cut_at (length rows) pieces place

  abbrev front : Table
  front = rows_between pieces from middle rows

  abbrev part : Table
  part = rows_between pieces middle to rows

  abbrev both : Table
  both = rows_between pieces from to rows

  abbrev kept : Table → Table
  kept t = filter (is_kept fields (query_shape q).filter) t

  together : both ≡ front ++ part
  together = both_parts rows (at from) (at middle) (at to) (cuts_rise (length rows) pieces from middle one low) (cuts_rise (length rows) pieces middle to one high)

  both_few : length front + length part ≤ 2 ^ 40
  both_few =
      omega (arith, few, length-append front part, ap (λ (t : Table). length t) together, length-between (at from) (at to) rows)

  front_comparable : All (AreComparable (kind_at fields) q.aggs.items) (kept front)
  front_comparable =
      All-filter (is_kept fields (query_shape q).filter) (AreComparable (kind_at fields) q.aggs.items) front
      (all_between (AreComparable (kind_at fields) q.aggs.items) (at from) (at middle) rows comparable)

  part_comparable : All (AreComparable (kind_at fields) q.aggs.items) (kept part)
  part_comparable =
      All-filter (is_kept fields (query_shape q).filter) (AreComparable (kind_at fields) q.aggs.items) part
      (all_between (AreComparable (kind_at fields) q.aggs.items) (at middle) (at to) rows comparable)

  -- The pieces behind may be added.
  pub pieces_room : (whole g : Grouping) → HasRun fields q front whole → HasRun fields q part g
      → (q : Query) × (kinds : ℕ → Kind) × (rows : Table) × (more : Table) × (length rows + length more ≤ 2 ^ 40)
      × HasGroups q rows whole × HasGroups q more g
      × All (AreComparable kinds q.aggs.items) rows × All (AreComparable kinds q.aggs.items) more
  pieces_room whole g h k =
      (q, kind_at fields, kept front, kept part, kept_few fields (query_shape q).filter front part (2 ^ 40) both_few, h.kept, k.kept, front_comparable, part_comparable)

  -- And then their rows are among those so far.
  pub pieces_joined : (whole g new : Grouping) → HasRun fields q front whole → HasRun fields q part g
      → ((q : Query) (kinds : ℕ → Kind) (rows more : Table) → HasGroups q rows whole → HasGroups q more g
      → All (AreComparable kinds q.aggs.items) rows → All (AreComparable kinds q.aggs.items) more → HasGroups q (rows ++ more) new)
      → HasRun fields q both new
  pieces_joined whole g new h k merges = record {
    good = subst (All (IsGood fields (query_shape q).filter)) (sym together) (All-append (IsGood fields (query_shape q).filter) front part h.good k.good);
    kept =
        subst (λ (t : Table). HasKept fields q t new) (sym together)
        (subst (λ (t : Table). HasGroups q t new) (sym (filter-append (is_kept fields (query_shape q).filter) front part))
        (merges q (kind_at fields) (kept front) (kept part) h.kept k.kept front_comparable part_comparable));
  }

  -- A refusal of the pieces in front is one of all.
  pub front_refused : (e : QueryFault) → IsPieceRefusal fields (query_shape q).filter (at from) front e → IsPieceRefusal fields (query_shape q).filter (at from) both e
  front_refused e (inr memory) = inr memory
  front_refused e (inl bad) =
      inl (bad.0, ap (position (is_bad fields (query_shape q).filter)) together ∙ found_in_front (is_bad fields (query_shape q).filter) front part bad.0 bad.1, bad.2)

  -- So is one of those behind, where those in front are not refused.
  pub part_refused : (whole : Grouping) (e : QueryFault) → HasRun fields q front whole → IsPieceRefusal fields (query_shape q).filter (at middle) part e
      → IsPieceRefusal fields (query_shape q).filter (at from) both e
  part_refused whole e h (inr memory) = inr memory
  part_refused whole e h (inl bad) =
      let place : at middle + bad.0 ≡ at from + (length front + bad.0) =
      omega (
        arith,
        length-between (at from) (at middle) rows,
        cuts_rise (length rows) pieces from middle one low,
        cuts_within (length rows) pieces middle (omega (arith, high, within)),
      ) in
      inl (
        length front + bad.0,
        ap (position (is_bad fields (query_shape q).filter)) together ∙ found_behind (is_bad fields (query_shape q).filter) front part bad.0 h.good bad.1,
        bad.2 ∙ ap Overflow place,
      )

module _ (fields : List FieldShape) (q : Query) (rows : Table) where
  whole_between : (pieces : ℕ) → 1 ≤ pieces → rows_between pieces 0 (0 + pieces) rows ≡ rows
  whole_between pieces one =
      ap (λ n. rows_between pieces 0 n rows) (zero-add pieces)
      ∙ ap (λ m. between m (cut_at (length rows) pieces pieces) rows) (first_cut (length rows) pieces) ∙ ap (λ m. between 0 m rows) (last_cut (length rows) pieces one) ∙ front_whole rows

  pub all_joined : (pieces : ℕ) (g : Grouping) → 1 ≤ pieces → HasRun fields q (rows_between pieces 0 (0 + pieces) rows) g → HasRun fields q rows g
  all_joined pieces g one h = subst (λ (t : Table). HasRun fields q t g) (whole_between pieces one) h

  -- ---- what is answered

  pub is_refusal : (pieces : ℕ) (e : QueryFault) → 1 ≤ pieces → IsPieceRefusal fields (query_shape q).filter (cut_at (length rows) pieces 0) (rows_between pieces 0 (0 + pieces) rows) e
      → IsRefusal fields (query_shape q) rows e
  is_refusal pieces e one (inr memory) = inr memory
  is_refusal pieces e one (inl bad) =
      inl (
        bad.0,
        ap (λ o. unless_bad o (grouped (query_shape q).by (query_shape q).aggs (filter (is_kept fields (query_shape q).filter) rows)))
            (ap (position (is_bad fields (query_shape q).filter)) (sym (whole_between pieces one)) ∙ bad.1),
        bad.2 ∙ ap Overflow (ap (λ m. m + bad.0) (first_cut (length rows) pieces) ∙ zero-add bad.0),
      )

  pub is_answer : (g : Grouping) (reported : List GroupShape) → HasRun fields q rows g → reported ≡ grouped q.by.items q.aggs.items (filter (is_kept fields (query_shape q).filter) rows)
      → groups fields (query_shape q) rows ≡ Ok reported
  is_answer g reported h tells =
      ap (λ o. unless_bad o (grouped (query_shape q).by (query_shape q).aggs (filter (is_kept fields (query_shape q).filter) rows))) (nowhere (is_bad fields (query_shape q).filter) rows h.good)
      ∙ ap Ok (sym tells)

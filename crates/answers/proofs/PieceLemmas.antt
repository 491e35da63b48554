-- The rows of a piece, batch by batch.
use Rattle.std.proofs.Common.{◌≡◌, ◌∙◌, ℕ, zero, suc, ◌+◌, ◌-◌, ◌<◌, ◌≤◌, Bool, true, not, cond, List, [], ◌∷◌, ◌++◌, length, map, take, drop, get_or, position, Option, Some, None, All, refl, sym, ap, subst, arith, length-append, zero-add, le_refl}
use Rattle.std.specs.Prelude.{◌*◌, ◌/◌, Err, IfErr, IfOk, Ok, Result, false, is_none, min, nat_lt}
use Rattle.std.proofs.Math.Nat.{div-le_of_le-mul, div-mul-le_self, mul-div_cancel, mul-zero, mul_comm, zero-div}
use Rattle.std.proofs.lemmas.Bool.{lt-ltb, ltb-true}
use Rattle.std.proofs.lemmas.Nat.{le-div, mul-le}
use Rattle.std.specs.List.{position_or_len, range_with_len}
use Rattle.std.proofs.lemmas.Grind.{common_steps}
use Rattle.std.proofs.lemmas.List.{length-drop, length-take, take_all}
use Rattle.std.proofs.lemmas.List.Elements.{All-append, All-cons, All-drop, All-head, All-nil, All-tail, All-take}
use Rattle.arrays.proofs.BitLemmas.{map-range-same}
use Rattle.arrays.specs.Prelude.{Batch, FieldShape, Row, Table, kind_of_field, row_of, rows_of}
use Rattle.evaluate.specs.Slices.{row_in}
use Rattle.query.specs.Prelude.{Tree, query_shape}
use Rattle.query.specs.declared.queries.Query.{Query}
use Rattle.answers.specs.Prelude.{AreLooked, AreSound, HasKept, HasRun, IsBadRow, IsGood, IsPieceRefusal, all_rows, between, cut_at, is_bad, rows_in, verdict}
use Rattle.query.specs.declared.fault.QueryFault.{QueryFault}
use Rattle.answers.specs.declared.grouping.Grouping.{Grouping}
use Rattle.answers.proofs.AnsweringLemmas.{bad_alike, few_next, first_at, has_kept_alike, rows_next, rows_split as rows_apart}
use Rattle.answers.proofs.RunLemmas.{length-rows_in, rows_split}
use Rattle.keys.proofs.SameLemmas.{either}

pub none_between : (from to : ℕ) → between from to [] ≡ []
none_between zero zero = refl
none_between zero (suc to) = refl
none_between (suc from) zero = refl
none_between (suc from) (suc to) = refl

none_taken : (from : ℕ) (rows : Table) → between from 0 rows ≡ []
none_taken zero rows = refl
none_taken (suc from) rows = refl

pub between-append : (from to : ℕ) (rows more : Table) → between from to (rows ++ more) ≡ between from to rows ++ between (from - length rows) (to - length rows) more
between-append from to [] more =
    let f : from ≡ from - 0 = omega arith in
    let t : to ≡ to - 0 = omega arith in
    ap (λ n. between n to more) f ∙ ap (λ n. between (from - 0) n more) t ∙ ap (λ (l : Table). l ++ between (from - 0) (to - 0) more) (sym (none_between from to))
between-append from zero (r ∷ rows) more =
    let t : 0 - suc (length rows) ≡ 0 = omega arith in
    none_taken from (r ∷ (rows ++ more))
    ∙ sym (ap (λ n. between from 0 (r ∷ rows) ++ between (from - suc (length rows)) n more) t
    ∙ ap (λ (l : Table). l ++ between (from - suc (length rows)) 0 more) (none_taken from (r ∷ rows)) ∙ none_taken (from - suc (length rows)) more)
between-append zero (suc to) (r ∷ rows) more =
    let f : 0 - length rows ≡ 0 - suc (length rows) = omega arith in
    let t : to - length rows ≡ suc to - suc (length rows) = omega arith in
    ap (λ (l : Table). r ∷ l) (between-append zero to rows more
    ∙ ap (λ n. between 0 to rows ++ between n (to - length rows) more) f
    ∙ ap (λ n. between 0 to rows ++ between (0 - suc (length rows)) n more) t)
between-append (suc from) (suc to) (r ∷ rows) more =
    let f : from - length rows ≡ suc from - suc (length rows) = omega arith in
    let t : to - length rows ≡ suc to - suc (length rows) = omega arith in
    between-append from to rows more
    ∙ ap (λ n. between from to rows ++ between n (to - length rows) more) f
    ∙ ap (λ n. between from to rows ++ between (suc from - suc (length rows)) n more) t

range-between : (g : ℕ → Row) (from to a n : ℕ) → between from to (map g (range_with_len a n)) ≡ map g (range_with_len (a + min from n) (min to n - min from n))
range-between g from to a zero =
    let none : 0 ≡ min to 0 - min from 0 = omega arith in
    none_between from to ∙ ap (λ m. map g (range_with_len (a + min from 0) m)) none
range-between g from zero a (suc n) =
    let none : 0 ≡ min 0 (suc n) - min from (suc n) = omega arith in
    none_taken from (map g (range_with_len a (suc n))) ∙ ap (λ m. map g (range_with_len (a + min from (suc n)) m)) none
range-between g zero (suc to) a (suc n) =
    let e : a + 1 + min 0 n ≡ a + 1 = omega arith in
    let f : min to n - min 0 n ≡ min to n = omega arith in
    let h : suc (min to n) ≡ min (suc to) (suc n) - min 0 (suc n) = omega arith in
    let i : a ≡ a + min 0 (suc n) = omega arith in
    ap (λ (l : Table). g a ∷ l) (range-between g zero to (a + 1) n ∙ ap (λ m. map g (range_with_len m (min to n - min 0 n))) e ∙ ap (λ m. map g (range_with_len (a + 1) m)) f)
    ∙ ap (λ m. map g (range_with_len a m)) h ∙ ap (λ m. map g (range_with_len m (min (suc to) (suc n) - min 0 (suc n)))) i
range-between g (suc from) (suc to) a (suc n) =
    let e : a + 1 + min from n ≡ a + min (suc from) (suc n) = omega arith in
    let f : min to n - min from n ≡ min (suc to) (suc n) - min (suc from) (suc n) = omega arith in
    range-between g from to (a + 1) n ∙ ap (λ m. map g (range_with_len m (min to n - min from n))) e
    ∙ ap (λ m. map g (range_with_len (a + min (suc from) (suc n)) m)) f

pub rows-between : (b : Batch) (from to : ℕ) → between from to (rows_of b) ≡ rows_in b (min from b.rows) (min to b.rows - min from b.rows)
rows-between b from to =
    let start = min from b.rows in
    range-between (row_of b.columns) from to 0 b.rows
    ∙ ap (λ m. map (row_of b.columns) (range_with_len m (min to b.rows - start))) (zero-add start)
    ∙ sym (map-range-same (row_in b start) (row_of b.columns) 0 start (min to b.rows - start) (λ i. ap (λ k. row_of b.columns (start + k)) (zero-add i)))

pub length-between : (from to : ℕ) (rows : Table) → length (between from to rows) ≡ min to (length rows) - from
length-between from to rows = omega (arith, length-drop from (take to rows), length-take to rows)

-- ---- the next batch

shuffled : (p t d e : Table) (r : Row) → (p ++ (t ++ r ∷ d)) ++ e ≡ (p ++ t) ++ r ∷ (d ++ e)
shuffled p t d e r = grind (arith, common_steps)

module _ (bs : List Batch) (i : ℕ) (b : Batch) (below : i < length bs) (is : b ≡ get_or bs i b) (from to start n : ℕ)
    (first : start ≡ min (from - length (all_rows (take i bs))) b.rows) (count : n ≡ min (to - length (all_rows (take i bs))) b.rows - start) where
  both_between : between from to (all_rows (take i bs) ++ rows_of b) ≡ between from to (all_rows (take i bs)) ++ rows_in b start n
  both_between =
      let front = all_rows (take i bs) in
      between-append from to front (rows_of b)
      ∙ ap (λ l. between from to front ++ l) (rows-between b (from - length front) (to - length front))
      ∙ ap (λ m. between from to front ++ rows_in b m (min (to - length front) b.rows - m)) (sym first)
      ∙ ap (λ m. between from to front ++ rows_in b start m) (sym count)

  pub piece_next : between from to (all_rows (take (i + 1) bs)) ≡ between from to (all_rows (take i bs)) ++ rows_in b start n
  piece_next = ap (between from to) (rows_next bs i b below is) ∙ both_between

  pub piece_few : (total : ℕ) → length (all_rows bs) ≤ total → length (between from to (all_rows (take i bs))) + n ≤ total
  piece_few total few = omega (arith, few_next bs i b below is total few, length-between from to (all_rows (take i bs)), count)

  module _ (f : Option (Tree ℕ)) (fields : List FieldShape) (same : map kind_of_field b.fields ≡ map kind_of_field fields) where
    good_in : (a m : ℕ) → ((j : ℕ) → a ≤ j → j < a + m → is_bad b.fields f (row_in b start j) ≡ false) → All (IsGood fields f) (map (row_in b start) (range_with_len a m))
    good_in a zero good = All-nil (IsGood fields f)
    good_in a (suc m) good =
        All-cons (IsGood fields f) (row_in b start a) (map (row_in b start) (range_with_len (a + 1) m))
        (sym (bad_alike b.fields fields same f (row_in b start a)) ∙ good a (omega arith) (omega arith))
        (good_in (a + 1) m (λ j low high. good j (omega (arith, low)) (omega (arith, high))))

    pub piece_good : AreSound b start n f → All (IsGood fields f) (between from to (all_rows (take i bs))) → All (IsGood fields f) (between from to (all_rows (take (i + 1) bs)))
    piece_good sound good =
        subst (All (IsGood fields f)) (sym piece_next)
        (All-append (IsGood fields f) (between from to (all_rows (take i bs))) (rows_in b start n) good (good_in 0 n (λ j low high. sound.each j (omega (arith, high)))))

    pub piece_refused : (row : ℕ) → IsBadRow b start n f row → All (IsGood fields f) (between from to (all_rows (take i bs)))
        → position (is_bad fields f) (between from to (all_rows bs)) ≡ Some (length (between from to (all_rows (take i bs))) + row)
    piece_refused row bad good =
        let front = all_rows (take i bs) in
        let rest = all_rows (drop (i + 1) bs) in
        let part = between from to front in
        let here = rows_in b start row in
        let r = row_in b (start + row) 0 in
        let behind = map (row_in b (start + row)) (range_with_len 1 (n - row - 1)) in
        let far = between (from - length (front ++ rows_of b)) (to - length (front ++ rows_of b)) rest in
        let whole : n ≡ row + suc (n - row - 1) = omega (arith, bad.within) in
        let split : rows_in b start n ≡ here ++ r ∷ behind = ap (rows_in b start) whole ∙ rows_split b start row (suc (n - row - 1)) in
        let at : start + row + 0 ≡ start + row = omega arith in
        ap (λ l. position (is_bad fields f) (between from to l)) (rows_apart bs i b below is)
        ∙ ap (position (is_bad fields f)) (between-append from to (front ++ rows_of b) rest
        ∙ ap (λ (l : Table). l ++ far) (both_between ∙ ap (λ l. part ++ l) split) ∙ shuffled part here behind far r)
        ∙ first_at (is_bad fields f) (part ++ here) (behind ++ far) r
        (All-append (IsGood fields f) part here good (good_in 0 row (λ j low high. bad.before j (omega (arith, high)))))
        (sym (bad_alike b.fields fields same f r) ∙ ap is_none (ap (λ k. verdict b.fields f (row_of b.columns k)) at ∙ bad.bad))
        ∙ ap Some (length-append part here ∙ ap (λ m. length part + m) (length-rows_in b start row))

    -- The place of the row among all rows.
    pub piece_place : (row before : ℕ) → from ≤ to → before ≡ length (all_rows (take i bs)) → row < n
        → from + (length (between from to (all_rows (take i bs))) + row) ≡ before + start + row
    piece_place row before order is_before within =
        omega (arith, order, is_before, within, first, count, length-between from to (all_rows (take i bs)))

pub piece_whole : (bs : List Batch) (i from to : ℕ) (fields : List FieldShape) (q : Query) (g : Grouping) → length bs ≤ i → HasRun fields q (between from to (all_rows (take i bs))) g
    → HasRun fields q (between from to (all_rows bs)) g
piece_whole bs i from to fields q g past run = subst (λ (l : List Batch). HasRun fields q (between from to (all_rows l)) g) (take_all i bs past) run

pub piece_run : (bs : List Batch) (i : ℕ) (b : Batch) (below : i < length bs) (is : b ≡ get_or bs i b) (from to start n : ℕ)
    (first : start ≡ min (from - length (all_rows (take i bs))) b.rows) (count : n ≡ min (to - length (all_rows (take i bs))) b.rows - start)
    (fields : List FieldShape) (q : Query) (old new : Grouping) → map kind_of_field b.fields ≡ map kind_of_field fields
    → HasRun fields q (between from to (all_rows (take i bs))) old → AreSound b start n (query_shape q).filter
    → HasKept b.fields q (between from to (all_rows (take i bs)) ++ rows_in b start n) new → HasRun fields q (between from to (all_rows (take (i + 1) bs))) new
piece_run bs i b below is from to start n first count fields q old new same run sound kept = record {
  good = piece_good bs i b below is from to start n first count (query_shape q).filter fields same sound run.good;
  kept =
      subst (λ (rows : Table). HasKept fields q rows new) (sym (piece_next bs i b below is from to start n first count))
      (has_kept_alike b.fields fields q (between from to (all_rows (take i bs)) ++ rows_in b start n) new same kept);
}

-- ---- where the pieces are cut

pub cuts_rise : (rows pieces from to : ℕ) → 1 ≤ pieces → from ≤ to → cut_at rows pieces from ≤ cut_at rows pieces to
cuts_rise rows pieces from to one order =
    le-div (rows * from / pieces) (rows * to) pieces (omega (arith, one))
    (omega (arith, div-mul-le_self (rows * from) pieces, mul-le rows from rows to (le_refl rows) order))

pub are_looked : (fields : List FieldShape) (q : Query) (rows : Table) (pieces from to first last : ℕ) (r : Result Grouping QueryFault)
    → first ≡ cut_at (length rows) pieces from → last ≡ cut_at (length rows) pieces to
    → IfOk r (HasRun fields q (between first last rows)) → IfErr r (IsPieceRefusal fields (query_shape q).filter first (between first last rows))
    → AreLooked fields q rows pieces from to r
are_looked fields q rows pieces from to first last (Ok g) low high ok err =
    subst (λ n. HasRun fields q (between n (cut_at (length rows) pieces to) rows) g) low (subst (λ n. HasRun fields q (between first n rows) g) high ok)
are_looked fields q rows pieces from to first last (Err e) low high ok err =
    subst (λ n. IsPieceRefusal fields (query_shape q).filter n (between n (cut_at (length rows) pieces to) rows) e) low
    (subst (λ n. IsPieceRefusal fields (query_shape q).filter first (between first n rows) e) high err)

pub first_cut : (rows pieces : ℕ) → cut_at rows pieces 0 ≡ 0
first_cut rows pieces = ap (λ n. n / pieces) (mul-zero rows) ∙ zero-div pieces

pub last_cut : (rows pieces : ℕ) → 1 ≤ pieces → cut_at rows pieces pieces ≡ rows
last_cut rows pieces one = mul-div_cancel rows (omega (arith, one))

pub cuts_within : (rows pieces place : ℕ) → place ≤ pieces → cut_at rows pieces place ≤ rows
cuts_within rows pieces place within =
    div-le_of_le-mul pieces (omega (arith, mul-le rows place rows pieces (le_refl rows) within, mul_comm rows pieces))

-- ---- the rows of pieces, and of those behind them

front_next : (rows : Table) (from to : ℕ) → from ≤ to → between 0 to rows ≡ between 0 from rows ++ between from to rows
front_next [] from to order =
    none_between 0 to ∙ sym (ap (λ (l : Table). l ++ between from to []) (none_between 0 from) ∙ none_between from to)
front_next (r ∷ rows) zero to order = refl
front_next (r ∷ rows) (suc from) zero order = absurd (omega (arith, order))
front_next (r ∷ rows) (suc from) (suc to) order = ap (λ (l : Table). r ∷ l) (front_next rows from to (omega (arith, order)))

pub both_parts : (rows : Table) (from middle to : ℕ) → from ≤ middle → middle ≤ to → between from to rows ≡ between from middle rows ++ between middle to rows
both_parts [] from middle to low high =
    none_between from to ∙ sym (ap (λ (l : Table). l ++ between middle to []) (none_between from middle) ∙ none_between middle to)
both_parts (r ∷ rows) zero middle to low high = front_next (r ∷ rows) middle to high
both_parts (r ∷ rows) (suc from) zero to low high = absurd (omega (arith, low))
both_parts (r ∷ rows) (suc from) (suc middle) zero low high = absurd (omega (arith, high))
both_parts (r ∷ rows) (suc from) (suc middle) (suc to) low high = both_parts rows from middle to (omega (arith, low)) (omega (arith, high))

pub front_whole : (rows : Table) → between 0 (length rows) rows ≡ rows
front_whole rows = take_all (length rows) rows (le_refl (length rows))

pub all_between : (P : Row → Type 0) (from to : ℕ) (rows : Table) → All P rows → All P (between from to rows)
all_between P from to rows h = All-drop P from (take to rows) (All-take P to rows h)

-- ---- the first place where a test passes, in a piece

module _ (p : Row → Bool) where
  behind_front : (front rows : Table) → All (λ r. p r ≡ false) front → position_or_len p (front ++ rows) ≡ length front + position_or_len p rows
  behind_front [] rows h = sym (zero-add (position_or_len p rows))
  behind_front (r ∷ front) rows h =
      ap (λ b. cond (not b) (1 + position_or_len p (front ++ rows)) 0) (All-head (λ r. p r ≡ false) r front h)
      ∙ omega (arith, behind_front front rows (All-tail (λ r. p r ≡ false) r front h))

  before_rest : (rows rest : Table) → position_or_len p rows < length rows → position_or_len p (rows ++ rest) ≡ position_or_len p rows
  before_rest [] rest h = absurd (omega (arith, h))
  before_rest (r ∷ rows) rest h =
      either (p r)
      (λ passes. ap (λ b. cond (not b) (1 + position_or_len p (rows ++ rest)) 0) passes ∙ sym (ap (λ b. cond (not b) (1 + position_or_len p rows) 0) passes))
      (λ fails.
      let later : 1 + position_or_len p rows < suc (length rows) = subst (λ b. cond (not b) (1 + position_or_len p rows) 0 < suc (length rows)) fails h in
      ap (λ b. cond (not b) (1 + position_or_len p (rows ++ rest)) 0) fails
      ∙ ap (λ n. 1 + n) (before_rest rows rest (omega (arith, later)))
      ∙ sym (ap (λ b. cond (not b) (1 + position_or_len p rows) 0) fails))

  where_found : (rows : Table) (n : ℕ) → position p rows ≡ Some n → (position_or_len p rows ≡ n) × (n < length rows)
  where_found rows n h = go (nat_lt (position_or_len p rows) (length rows)) refl h where
    go : (b : Bool) → nat_lt (position_or_len p rows) (length rows) ≡ b → cond b (Some (position_or_len p rows)) None ≡ Some n
        → (position_or_len p rows ≡ n) × (n < length rows)
    go true is found =
        let at : position_or_len p rows ≡ n = cc in
        (at, omega (arith, at, ltb-true (position_or_len p rows) (length rows) is))
    go false is found = absurd cc

  pub found_in_front : (front rows : Table) (n : ℕ) → position p front ≡ Some n → position p (front ++ rows) ≡ Some n
  found_in_front front rows n here =
      let found = where_found front n here in
      let place : position_or_len p (front ++ rows) ≡ n = before_rest front rows (omega (arith, found.0, found.1)) ∙ found.0 in
      let inside : position_or_len p (front ++ rows) < length (front ++ rows) = omega (arith, place, found.1, length-append front rows) in
      ap (λ b. cond b (Some (position_or_len p (front ++ rows))) None) (lt-ltb (position_or_len p (front ++ rows)) (length (front ++ rows)) inside) ∙ ap Some place

  -- Where no row in front passes.
  pub found_behind : (front rows : Table) (n : ℕ) → All (λ r. p r ≡ false) front → position p rows ≡ Some n → position p (front ++ rows) ≡ Some (length front + n)
  found_behind front rows n good here =
      let found = where_found rows n here in
      let place : position_or_len p (front ++ rows) ≡ length front + n = behind_front front rows good ∙ ap (λ m. length front + m) found.0 in
      let inside : position_or_len p (front ++ rows) < length (front ++ rows) = omega (arith, place, found.1, length-append front rows) in
      ap (λ b. cond b (Some (position_or_len p (front ++ rows))) None) (lt-ltb (position_or_len p (front ++ rows)) (length (front ++ rows)) inside) ∙ ap Some place

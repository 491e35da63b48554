-- A history with one pair more.
use Rattle.std.proofs.Common.{◌≡◌, ℕ, ◌+◌, ◌<◌, List, ◌∷◌, ◌++◌, [], length, ◌∙◌, ap, sym, subst, arith, length-append}
use Rattle.std.proofs.lemmas.List.Elements.{All-map, All-push}
use Rattle.arrays.specs.Prelude.{Batch, FieldShape, Table, rows_of}
use Rattle.shared.specs.Prelude.{Change, IsBalanced, IsOfWorkers, Known, ShowsKnown, field_added, known_after}
use Rattle.shared.proofs.KnownLemmas.{known_widened}
use Rattle.table.specs.Prelude.{Contents, History, rows, widened, widened_table, with_last_field}
use Rattle.arrays.proofs.BatchLemmas.{length-rows_of}
use Rattle.table.proofs.HistoryLemmas.{rows-push}
use Rattle.table.proofs.WidenedLemmas.{length-table, length-widened, rows-widened}

-- it is counted where one call and the batch's rows are
pub balanced_push : (h next : History) (worker : ℕ) (b : Batch) (calls row_count more_calls more_rows added : ℕ) → IsBalanced calls row_count h
    → next ≡ h ++ (worker, rows_of b) ∷ [] → more_calls ≡ calls + 1 → more_rows ≡ row_count + added → added ≡ b.rows → IsBalanced more_calls more_rows next
balanced_push h next worker b calls row_count more_calls more_rows added is same one more size = record {
  pairs = omega (arith, is.pairs, one, ap (λ (l : History). length l) same, length-append h ((worker, rows_of b) ∷ []));
  rows_counted = omega (
    arith,
    is.rows_counted,
    more,
    size,
    ap (λ (l : History). length (rows l)) same,
    ap (λ (t : Table). length t) (rows-push h (worker, rows_of b)),
    length-append (rows h) (rows_of b),
    length-rows_of b,
  );
}

-- it is of the workers where its worker is one
pub workers_push : (h next : History) (worker : ℕ) (t : Table) (count : ℕ) → IsOfWorkers count h → next ≡ h ++ (worker, t) ∷ [] → worker < count → IsOfWorkers count next
workers_push h next worker t count all same one = subst (IsOfWorkers count) (sym same) (All-push (λ (e : ℕ × Table). e.0 < count) h (worker, t) all one)

-- it has the batch's rows more
pub rows_pushed : (mine next : History) (worker : ℕ) (b : Batch) → next ≡ mine ++ (worker, rows_of b) ∷ [] → length (rows next) ≡ length (rows mine) + b.rows
rows_pushed mine next worker b same = omega (
  arith,
  ap (λ (l : History). length (rows l)) same,
  ap (λ (t : Table). length t) (rows-push mine (worker, rows_of b)),
  length-append (rows mine) (rows_of b),
  length-rows_of b,
)

-- it has as many rows where they end with nulls
pub rows_widened : (n : ℕ) (h : History) → length (rows (widened n h)) ≡ length (rows h)
rows_widened n h = ap (λ (t : Table). length t) (rows-widened n h) ∙ length-table n (rows h)

pub balanced_wider : (n calls row_count : ℕ) (h next : History) → IsBalanced calls row_count h → next ≡ widened n h → IsBalanced calls row_count next
balanced_wider n calls row_count h next is same =
    subst (IsBalanced calls row_count) (sym same) (record { pairs = is.pairs ∙ sym (length-widened n h); rows_counted = is.rows_counted ∙ sym (rows_widened n h) })

pub workers_wider : (n count : ℕ) (h next : History) → IsOfWorkers count h → next ≡ widened n h → IsOfWorkers count next
workers_wider n count h next all same =
    subst (IsOfWorkers count) (sym same) (All-map (λ (e : ℕ × Table). e.0 < count) (λ (e : ℕ × Table). (e.0, widened_table n e.1)) h all)

-- the same of a version of the table
pub shows_same : (count : ℕ) (k : Known) (s version : Contents) → ShowsKnown count k s → version ≡ s → ShowsKnown count k version
shows_same count k s version is same = subst (ShowsKnown count k) (sym same) is

-- the same of a table with a column more
pub shows_widened : (count : ℕ) (first : List FieldShape) (xs ys : List Change) (s next : Contents) (f : FieldShape) → ShowsKnown count (known_after first xs) s → ys ≡ xs ++ field_added f ∷ []
    → next ≡ with_last_field s f → ShowsKnown count (known_after first ys) next
shows_widened count first xs ys s next f is added same = record {
  known = known_widened first xs ys s next f is.known added same;
  workers = workers_wider (length s.fields + 1) count s.history next.history is.workers (ap (λ (t : Contents). t.history) same);
}

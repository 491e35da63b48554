-- Rows of batches as lines, one after the other.
use Rattle.std.proofs.Common.{◌≡◌, ◌∙◌, ℕ, zero, suc, ◌+◌, ◌-◌, ◌<◌, List, [], ◌∷◌, ◌++◌, None, length, take, ap, arith, refl, subst, sym}
use Rattle.std.proofs.lemmas.Grind.{flat_map-append}
use Rattle.std.proofs.lemmas.List.{append-nil, take_more}
use Rattle.std.proofs.lemmas.List.FromFn.{get_or-map-range_with_len}
use Rattle.std.specs.List.{All, flat_map}
use Rattle.arrays.specs.Prelude.{Batch, Row, Seen, Table, batch_fault, row_of, rows_of}
use Rattle.arrays.proofs.BatchLemmas.{length-rows_of, sizes, whole}

-- a front of two lists
take_both : {A : Type 0} (past more : List A) (n : ℕ) → take n (past ++ more) ≡ take n past ++ take (n - length past) more
take_both [] more zero = refl
take_both [] more (suc n) = let none : suc n ≡ suc n - 0 = omega arith in ap (λ k. take k more) none
take_both (r ∷ past) more zero = let none : 0 ≡ 0 - length (r ∷ past) = omega arith in ap (λ k. take k more) none
take_both (r ∷ past) more (suc n) =
    let same : n - length past ≡ suc n - length (r ∷ past) = omega arith in
    ap (λ l. r ∷ l) (take_both past more n ∙ ap (λ k. take n past ++ take k more) same)

-- the rows that are first are those of the batch, and as many of the others as are left
pub first_rows : (line : Row → List ℕ) (b : Batch) (rest : Table) (left : ℕ) → flat_map line (take left (rows_of b ++ rest)) ≡ flat_map line (take left (rows_of b)) ++ flat_map line (take (left - b.rows) rest)
first_rows line b rest left = rw (take_both (rows_of b) rest left, length-rows_of b) (flat_map-append line (take left (rows_of b)) (take (left - b.rows) rest))

-- one row of a batch more
pub row_more : (line : Row → List ℕ) (b : Batch) (i : ℕ) → i < b.rows → flat_map line (take (i + 1) (rows_of b)) ≡ flat_map line (take i (rows_of b)) ++ line (row_of b.columns i)
row_more line b i below =
    let r = row_of b.columns i in
    rw (take_more (rows_of b) i r (omega (arith, below, length-rows_of b)), get_or-map-range_with_len (row_of b.columns) 0 b.rows i i r below (omega arith))
    (flat_map-append line (take i (rows_of b)) (r ∷ []) ∙ ap (λ t. flat_map line (take i (rows_of b)) ++ t) (append-nil (line r)))

-- the columns of a lawful batch are as long as it is
pub columns_long : (b : Batch) (i : ℕ) (columns : List Seen) → batch_fault b.fields b.rows b.columns ≡ None → i < b.rows → columns ≡ b.columns → All (λ (c : Seen). i < length c.items) columns
columns_long b i columns lawful within same =
    subst (λ (cs : List Seen). All (λ (c : Seen). i < length c.items) cs) (sym same) (λ k d below. omega (arith, within, sizes b.rows b.columns (whole b.fields b.rows b.columns lawful).long k d below))

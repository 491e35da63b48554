-- The batches of a file: how many rows they have, and that a query over its fields is one over theirs.
use Rattle.std.proofs.Common.{◌≡◌, ◌∙◌, ℕ, ◌+◌, ◌<◌, List, [], ◌∷◌, ◌++◌, All, true, ap, arith, get_or, length, length-append, map, sym, take}
use Rattle.std.proofs.lemmas.Grind.{flat_map-append}
use Rattle.std.proofs.lemmas.List.{append-nil, get_or-map, length-map, take_more}
use Rattle.std.proofs.lemmas.List.Elements.{All-from_recursion, All-weaker}
use Rattle.std.proofs.lemmas.List.FromFn.{length-map-range_with_len}
use Rattle.arrays.specs.Prelude.{Batch, FieldShape, kind_of_field, row_of, rows_of}
use Rattle.answers.specs.Prelude.{QueryShape, all_rows, first_fields, fits}
use Rattle.arrow_json.specs.Prelude.{AreUnder}

pub more_rows : {A : Type 0} (f : A → Batch) (xs : List A) (i : ℕ) (x : A) → i < length xs → x ≡ get_or xs i x
    → length (all_rows (take (i + 1) (map f xs))) ≡ length (all_rows (take i (map f xs))) + (f x).rows
more_rows f xs i x below is =
    let bs : List Batch = map f xs in
    let front = all_rows (take i bs) in
    ap (λ l. length (all_rows l)) (take_more bs i (f x) (omega (arith, below, length-map xs f)) ∙ ap (λ b. take i bs ++ b ∷ []) (get_or-map f xs i x (f x) below ∙ ap f (sym is)))
    ∙ ap length (flat_map-append rows_of (take i bs) (f x ∷ []) ∙ ap (λ l. front ++ l) (append-nil (rows_of (f x))))
    ∙ length-append front (rows_of (f x))
    ∙ ap (λ n. length front + n) (length-map-range_with_len (row_of (f x).columns) 0 (f x).rows)

pub fits_each : (fields : List FieldShape) (q : QueryShape ℕ) (bs : List Batch) → fits fields q ≡ true → AreUnder fields bs → All (λ (b : Batch). fits b.fields q ≡ true) bs
fits_each fields q bs fit under =
    All-weaker (λ (b : Batch). b.fields ≡ fields) (λ (b : Batch). fits b.fields q ≡ true) (λ b is. ap (λ fs. fits fs q) is ∙ fit) bs
    (All-from_recursion (λ (b : Batch). b.fields ≡ fields) bs under)

pub types_same : (fields : List FieldShape) (bs : List Batch) → AreUnder fields bs → All (λ (b : Batch). map kind_of_field b.fields ≡ map kind_of_field (first_fields bs)) bs
types_same fields [] under = λ i d below. absurd (omega (arith, below))
types_same fields (b ∷ bs) under =
    let all = All-from_recursion (λ (c : Batch). c.fields ≡ fields) (b ∷ bs) under in
    All-weaker (λ (c : Batch). c.fields ≡ fields) (λ (c : Batch). map kind_of_field c.fields ≡ map kind_of_field b.fields) (λ c is. ap (map kind_of_field) (is ∙ sym (all 0 b (omega arith)))) (b ∷ bs) all

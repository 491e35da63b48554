-- The rows and the columns of lawful batches.
use Rattle.std.proofs.Common.{◌≡◌, ◌∙◌, ℕ, ◌<◌, List, length, get_or, ap, arith}
use Rattle.arrays.specs.Prelude.{Batch, FieldShape, kind_of_field}
use Rattle.arrays.proofs.BatchLemmas.{kinds, whole}
use Rattle.compaction.specs.Fronts.{IsBatchOf, IsOfKind}

-- ---- batches of the fields

pub count-of : (fields : List FieldShape) (b : Batch) → IsBatchOf fields b → length b.columns ≡ length fields
count-of fields b is = (whole b.fields b.rows b.columns is.lawful).count ∙ ap (λ (l : List FieldShape). length l) is.same

-- a column is of its field's kind
pub kind-at : (fields : List FieldShape) (b : Batch) (k : ℕ) (f : FieldShape) → IsBatchOf fields b → k < length fields → IsOfKind (kind_of_field (get_or fields k f)) k b
kind-at fields b k f is below d =
    let all = whole b.fields b.rows b.columns is.lawful in
    kinds b.columns b.fields all.count all.kinds k d f (omega (arith, below, ap (λ (l : List FieldShape). length l) is.same))
    ∙ ap (λ (l : List FieldShape). kind_of_field (get_or l k f)) is.same

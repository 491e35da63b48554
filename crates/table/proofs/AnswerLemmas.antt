-- A query over the batches of a table is one over its fields and rows.
use Rattle.std.proofs.Common.{◌≡◌, ◌∙◌, List, [], ◌∷◌, map, All, Result, Ok, Err, IfOk, IfErr, true, ap, refl, sym, subst, ℕ}
use Rattle.std.specs.Prelude.{◌⊎◌}
use Rattle.answers.specs.Prelude.{GroupShape, IsAnswer, IsRefusal, NoMemory, Overflow, QueryFault, QueryShape, all_rows, first_fields, fits, groups}
use Rattle.std.proofs.lemmas.List.Elements.{All-head, All-nil, All-weaker}
use Rattle.arrays.specs.Prelude.{Batch, FieldShape, Table, kind_of_field}
use Rattle.answers.specs.declared.groups.Answer.{Answer}
use Rattle.table.specs.Lawful.{IsStored, rows_of_batches}

module _ (fields : List FieldShape) where
  stored_first : (b : Batch) (bs : List Batch) → All (IsStored fields) (b ∷ bs) → b.fields ≡ fields
  stored_first b bs stored = (All-head (IsStored fields) b bs stored).same

  pub same_types : (bs : List Batch) → All (IsStored fields) bs → All (λ (b : Batch). map kind_of_field b.fields ≡ map kind_of_field (first_fields bs)) bs
  same_types [] stored = All-nil (λ (b : Batch). map kind_of_field b.fields ≡ [])
  same_types (b ∷ bs) stored =
      All-weaker (IsStored fields) (λ (c : Batch). map kind_of_field c.fields ≡ map kind_of_field b.fields)
      (λ c is. ap (map kind_of_field) (is.same ∙ sym (stored_first b bs stored))) (b ∷ bs) stored

  pub fits_each : (q : QueryShape ℕ) (bs : List Batch) → fits fields q ≡ true → All (IsStored fields) bs → All (λ (b : Batch). fits b.fields q ≡ true) bs
  fits_each q bs fit stored = All-weaker (IsStored fields) (λ (b : Batch). fits b.fields q ≡ true) (λ b is. ap (λ fs. fits fs q) is.same ∙ fit) bs stored

  -- the groups over the first batch's fields are those over the table's
  same_groups : (q : QueryShape ℕ) (bs : List Batch) → All (IsStored fields) bs → groups (first_fields bs) q (all_rows bs) ≡ groups fields q (all_rows bs)
  same_groups q [] stored = refl
  same_groups q (b ∷ bs) stored = ap (λ fs. groups fs q (all_rows (b ∷ bs))) (stored_first b bs stored)

  of_table : (q : QueryShape ℕ) (bs : List Batch) (t : Table) → All (IsStored fields) bs → rows_of_batches bs ≡ t → groups (first_fields bs) q (all_rows bs) ≡ groups fields q t
  of_table q bs t stored same = same_groups q bs stored ∙ ap (groups fields q) same

  module _ (q : QueryShape ℕ) (bs : List Batch) (t : Table) (stored : All (IsStored fields) bs) (same : rows_of_batches bs ≡ t) where
    pub answers_table : (r : Result Answer QueryFault) → IfOk r (IsAnswer (first_fields bs) q (all_rows bs)) → IfOk r (IsAnswer fields q t)
    answers_table (Ok a) is = sym (of_table q bs t stored same) ∙ is
    answers_table (Err e) is = tt

    pub refuses_table : (r : Result Answer QueryFault) → IfErr r (IsRefusal (first_fields bs) q (all_rows bs)) → IfErr r (IsRefusal fields q t)
    refuses_table (Ok a) is = tt
    refuses_table (Err e) is = subst (λ (g : Result (List GroupShape) ℕ). ((row : ℕ) × (g ≡ Err row) × (e ≡ Overflow row)) ⊎ (e ≡ NoMemory)) (of_table q bs t stored same) is

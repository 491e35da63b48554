-- What a table shows of itself.
use Rattle.std.specs.Prelude.{ℕ, List, refl, [], ◌∷◌, ◌++◌}
use Rattle.std.specs.Coded.{Coded, code_by, coded_ℕ, coded_list, coded×}
use Rattle.arrays.specs.Prelude.{Batch, FieldShape, Table, field_code, item_code, rows_of}
use Rattle.table.specs.History.{History}

-- The fields as they are stored, what was added and by whom, and the rows of each batch.
pub record Contents : Type 0 where
  pub fields : List FieldShape
  pub history : History
  pub batches : List Table

abbrev pub table_code : Coded Table
table_code = coded_list (coded_list item_code)

abbrev pub contents_code : Coded Contents
contents_code =
    code_by (List FieldShape × (List (ℕ × Table) × List Table))
    (coded× (coded_list field_code) (coded× (coded_list (coded× coded_ℕ table_code)) (coded_list table_code)))
    (λ c. (c.fields, (c.history, c.batches)))
    (λ p. record { fields = p.0; history = p.1.0; batches = p.1.1 })
    (λ _. refl)

-- With one batch more, of a worker.
abbrev pub admitted : Contents → ℕ → Batch → Contents
admitted c worker b = record {
  fields = c.fields;
  history = c.history ++ (worker, rows_of b) ∷ [];
  batches = c.batches ++ rows_of b ∷ [];
}

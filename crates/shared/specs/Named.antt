-- What the name of a table is of.
use Rattle.std.specs.Prelude.{◌≡◌, ℕ, List, refl}
use Rattle.std.specs.Coded.{Coded, code_by, coded_ℕ, coded_list, coded×}
use Rattle.arrays.specs.Prelude.{FieldShape, field_code}
use Rattle.logbook.specs.Pages.{Book, book_coded}

-- The book of its log, its stored fields, its ledgers of calls, of rows and of columns, and how many workers it has.
pub record NamedTable : Type 0 where
  pub book : Book
  pub fields : List FieldShape
  pub calls : ℕ
  pub rows : ℕ
  pub columns : ℕ
  pub workers : ℕ

abbrev pub named_code : Coded NamedTable
named_code =
    code_by (Book × (List FieldShape × (ℕ × (ℕ × (ℕ × ℕ)))))
    (coded× book_coded (coded× (coded_list field_code) (coded× coded_ℕ (coded× coded_ℕ (coded× coded_ℕ coded_ℕ)))))
    (λ n. (n.book, (n.fields, (n.calls, (n.rows, (n.columns, n.workers))))))
    (λ p. record { book = p.0; fields = p.1.0; calls = p.1.1.0; rows = p.1.1.1.0; columns = p.1.1.1.1.0; workers = p.1.1.1.1.1 })
    (λ _. refl)

-- The name is of this.
pub record IsNamed (book : Book) (fields : List FieldShape) (calls row_count columns workers : ℕ) (n : NamedTable) : Type 0 where
  pub book_is : n.book ≡ book
  pub fields_are : n.fields ≡ fields
  pub calls_are : n.calls ≡ calls
  pub rows_are : n.rows ≡ row_count
  pub columns_are : n.columns ≡ columns
  pub workers_are : n.workers ≡ workers

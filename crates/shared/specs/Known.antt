-- What somebody knows of a table.
use Rattle.std.specs.Prelude.{◌+◌, ◌++◌, List, [], ◌∷◌, length, refl}
use Rattle.std.specs.Coded.{Coded, code_by, coded_list, coded×}
use mathlib.Core.List.{IsPrefix}
use Rattle.arrays.specs.Prelude.{FieldShape, field_code}
use Rattle.shared.specs.Code.{history_code}
use Rattle.table.specs.Prelude.{Contents, History, IsLegal, widened}

-- The fields of the table as they are stored, and its history under them.
pub record Known : Type 0 where
  pub fields : List FieldShape
  pub history : History

abbrev pub known_code : Coded Known
known_code =
    code_by (List FieldShape × History) (coded× (coded_list field_code) history_code)
    (λ k. (k.fields, k.history))
    (λ p. record { fields = p.0; history = p.1 })
    (λ _. refl)

-- What a table shows that somebody can know.
abbrev pub known_of : Contents → Known
known_of c = record { fields = c.fields; history = c.history }

-- With one field more, behind the others: rows end with null there.
abbrev pub with_column : Known → FieldShape → Known
with_column k f = record {
  fields = k.fields ++ f ∷ [];
  history = widened (length k.fields + 1) k.history;
}

-- The first is a beginning of the second: its fields are a front of the second's, and its history, ended with nulls up to as
-- many fields, begins the second's.
pub record IsBeginning (k l : Known) : Type 0 where
  pub fields : IsPrefix k.fields l.fields
  pub history : IsPrefix (widened (length l.fields) k.history) l.history

-- Nothing stood against any part of its history.
abbrev pub IsLegalKnown : Known → Type 0
IsLegalKnown k = IsLegal k.fields k.history

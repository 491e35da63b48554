-- The changes of a table, in the order in which they came.
use Rattle.std.specs.Prelude.{◌≡◌, ◌⊎◌, ℕ, List, ◌++◌, length, Option, None, Some, refl}
use Rattle.std.proofs.Common.{inl, inr}
use Rattle.std.specs.Coded.{Coded, code_by, coded_ℕ, coded×, coded⊎}
use Rattle.std.specs.List.{filter_map}
use Rattle.arrays.specs.Prelude.{FieldShape, Table, field_code}
use Rattle.shared.specs.Known.{Known}
use Rattle.table.specs.Prelude.{History, table_code, widened}

-- A worker's rows come behind all others, or a field behind the others.
pub data Change : Type 0 where
  pair_added : ℕ × Table → Change
  field_added : FieldShape → Change

abbrev cases : Change → (ℕ × Table) ⊎ FieldShape
cases (pair_added e) = inl e
cases (field_added f) = inr f

abbrev change_of : (ℕ × Table) ⊎ FieldShape → Change
change_of (inl e) = pair_added e
change_of (inr f) = field_added f

pub change_again : (c : Change) → change_of (cases c) ≡ c
change_again (pair_added e) = refl
change_again (field_added f) = refl

abbrev pub change_code : Coded Change
change_code = code_by ((ℕ × Table) ⊎ FieldShape) (coded⊎ (coded× coded_ℕ table_code) field_code) cases change_of change_again

abbrev pub pair_in : Change → Option (ℕ × Table)
pair_in (pair_added e) = Some e
pair_in (field_added f) = None

abbrev pub added_field : Change → Option FieldShape
added_field (pair_added e) = None
added_field (field_added f) = Some f

-- The pairs that were added, with as many items in a row as there were fields then.
abbrev pub pairs_in : List Change → History
pairs_in changes = filter_map pair_in changes

abbrev pub fields_in : List Change → List FieldShape
fields_in changes = filter_map added_field changes

-- The fields after the changes of a table that was opened with these.
abbrev pub fields_after : List FieldShape → List Change → List FieldShape
fields_after first changes = first ++ fields_in changes

-- What is known after the changes of a table that was opened with these fields: rows end with nulls for the fields that came
-- behind them.
abbrev pub known_after : List FieldShape → List Change → Known
known_after first changes = record {
  fields = fields_after first changes;
  history = widened (length (fields_after first changes)) (pairs_in changes);
}

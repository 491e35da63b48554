-- A table with a column more: the rows that were there show null in it.
use Rattle.std.specs.Prelude.{ℕ, zero, suc, ◌+◌, [], ◌∷◌, ◌++◌, length, map, not, nat_lt, Option}
use Rattle.std.specs.Bool.{then_some}
use Rattle.arrays.specs.Prelude.{FieldShape, Row, Table, depth, first, has_dict_in_list, is_nullable, kind_of_field, null}
use Rattle.table.specs.Contents.{Contents}
use Rattle.table.specs.History.{History}
use Rattle.table.specs.declared.add_fault.AddFault.{AddFault}
use Rattle.table.specs.declared.add_fault.AddFault.TheVariants.{DictInList, NotNullable, TooDeep}

-- The row, ended with nulls up to so many items.
abbrev pub widened_row : ℕ → Row → Row
widened_row zero row = row
widened_row (suc n) [] = null ∷ widened_row n []
widened_row (suc n) (x ∷ row) = x ∷ widened_row n row

abbrev pub widened_table : ℕ → Table → Table
widened_table n t = map (widened_row n) t

-- The history with each of its rows ended with nulls.
abbrev pub widened : ℕ → History → History
widened n h = map (λ e. (e.0, widened_table n e.1)) h

-- With one field more, behind the others.
abbrev pub with_last_field : Contents → FieldShape → Contents
with_last_field c f = record {
  fields = c.fields ++ f ∷ [];
  history = widened (length c.fields + 1) c.history;
  batches = map (widened_table (length c.fields + 1)) c.batches;
}

-- Why no column of the field is added: the rows that are there have no value for it, or no schema has its type.
-- ("Schema message", nullable)
abbrev pub add_fault : FieldShape → Option AddFault
add_fault f = first (
    then_some (not (is_nullable f)) NotNullable
    ∷ then_some (nat_lt 8 (depth (kind_of_field f))) TooDeep
    ∷ then_some (has_dict_in_list (kind_of_field f)) DictInList
    ∷ [])

-- Columns of batches that are put together.
use Rattle.std.specs.Prelude.{◌≡◌, ℕ, ◌≤◌, All, List, length, slice_index_or, false, Option, is_some}
use Rattle.arrays.specs.Prelude.{Batch, Seen, column, is_past, is_too_big, joined_items, rows_of, same_kind}
use Rattle.arrays.specs.Kind as kind
use Rattle.select.specs.Joined.{kind_of_first}
use Rattle.compaction.specs.Under.{NamesFront}

-- It is column k of the batch, and has the items of its rows.
pub record IsColumnOf (k : ℕ) (b : Batch) (c : Seen) : Type 0 where
  pub at : c ≡ slice_index_or b.columns k c
  pub items : c.items ≡ column (rows_of b) k

-- Columns of one kind that one array holds, whose dictionaries begin the given one: there is one where they are
-- dictionary-encoded.
pub record AreJoinable (dictionary : Option Seen) (columns : List Seen) : Type 0 where
  pub some : 1 ≤ length columns
  pub kinds : All (λ c. c.kind ≡ kind_of_first columns) columns
  pub encoded : is_some dictionary ≡ same_kind (kind_of_first columns) kind.dict
  pub fronts : All (λ c. NamesFront c dictionary) columns
  pub few : is_past (length (joined_items columns)) ≡ false
  pub fits : is_too_big (kind_of_first columns) (joined_items columns) ≡ false

-- All items of the columns, under the given dictionary.
pub record IsJoined (dictionary : Option Seen) (columns : List Seen) (c : Seen) : Type 0 where
  pub kind : c.kind ≡ kind_of_first columns
  pub items : c.items ≡ joined_items columns
  pub front : NamesFront c dictionary

-- The same items, under the given dictionary.
pub record IsOver (dictionary : Option Seen) (column c : Seen) : Type 0 where
  pub kind : c.kind ≡ column.kind
  pub items : c.items ≡ column.items
  pub front : NamesFront c dictionary

-- Batches over longer dictionaries.
use Rattle.std.specs.Prelude.{◌≡◌, ◌≤◌, ◌-◌, ◌++◌, List, length, take, Option}
use Rattle.std.specs.List.{AllZip}
use Rattle.arrays.specs.Prelude.{Batch, FieldShape, Seen, rows_of}
use Rattle.compaction.specs.Under.{IsUnder}

-- The second has the rows of the first, and names fronts of these dictionaries.
pub record IsMoved (fields : List FieldShape) (dictionaries : List (Option Seen)) (b c : Batch) : Type 0 where
  pub under : IsUnder fields dictionaries c
  pub rows : rows_of c ≡ rows_of b

-- These in place of the last ones.
abbrev pub with_last : {A : Type 0} → List A → List A → List A
with_last xs last = take (length xs - length last) xs ++ last

-- These may stand in place of the last batches, under longer dictionaries.
pub record AreMoved (fields : List FieldShape) (dictionaries : List (Option Seen)) (batches moved : List Batch) : Type 0 where
  pub few : length moved ≤ length batches
  pub same : AllZip (IsMoved fields dictionaries) batches (with_last batches moved)

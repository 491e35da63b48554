-- The batches of a file, one after another. (Arrow integration testing, "JSON test data format")
use Rattle.std.specs.Prelude.{List, length, map, Option}
use Rattle.arrays.specs.Prelude.{Batch, FieldShape}
use Rattle.json_read.specs.Prelude.{AreUnder, Coding, Data, ReadsBatch, ReadsFirst, no_items, table_of}
use Rattle.json_scan.specs.Spelling.{before}

-- A batch under the fields for each value.
pub record AreBatches (fields : List FieldShape) (catalog : List (Option Coding)) (ds : List Data) (batches : List Batch) : Type 0 where
  pub read : ReadsFirst (ReadsBatch fields catalog) (before ds no_items) (length ds) (map table_of batches)
  pub under : AreUnder fields batches

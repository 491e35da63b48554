use Rattle.std.proofs.Common.{◌≡◌, ◌++◌, drop}
use Rattle.arrays.specs.Prelude.{fields_of}
use Rattle.json.specs.Tree.{items_tokens}
use Rattle.json_base.specs.Prelude.{items_of, items_outline}
use Rattle.json_print.specs.BatchData.{columns_data}
use Rattle.json_print.proofs.batch.write_columns.Given as goal

-- with the columns that are left all is written
abbrev pub invariant-loop-place : goal.invariant-loop-place
invariant-loop-place l =
    l.out ++ items_tokens (items_outline (columns_data (drop l.place l.dictionaries) (fields_of (drop l.place l.fields)) (items_of (drop l.place l.columns))))
    ≡ l.fn.out ++ items_tokens (items_outline (columns_data l.dictionaries (fields_of l.fields) (items_of l.columns)))

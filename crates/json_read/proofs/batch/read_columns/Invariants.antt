use Rattle.std.proofs.Common.{map, option_map}
use Rattle.json_read.specs.Prelude.{HoldsColumns, coding_of}
use Rattle.json_base.specs.Prelude.{items_view}
use Rattle.arrays.specs.Prelude.{fields_of}
use Rattle.json_read.proofs.batch.read_columns.Given as goal

-- the columns so far are read
abbrev pub invariant-loop-index : goal.invariant-loop-index
invariant-loop-index l = HoldsColumns (fields_of l.fields) (map (option_map coding_of) l.catalog) l.rows (items_view l.values) l.index-counter l.columns.items

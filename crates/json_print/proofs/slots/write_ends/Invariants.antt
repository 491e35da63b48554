use Rattle.std.proofs.Common.{◌≡◌, ◌++◌, drop}
use Rattle.json.specs.Tree.{items_tokens}
use Rattle.json_base.specs.Prelude.{items_outline}
use Rattle.json_print.specs.ColumnData.{offsets_data}
use Rattle.arrays.specs.Lengths.{joined_items}
use Rattle.json_print.proofs.slots.write_ends.Given as goal

-- with the columns that are left all is written
abbrev pub invariant-loop-column : goal.invariant-loop-column
invariant-loop-column l = l.out ++ items_tokens (items_outline (offsets_data l.width l.end (joined_items (drop l.column-index l.columns)))) ≡ l.fn.out ++ items_tokens (items_outline (offsets_data l.width 0 (joined_items l.columns)))

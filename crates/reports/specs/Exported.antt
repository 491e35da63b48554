-- The output of `export`.
use Rattle.std.specs.Prelude.{ℕ, List, length, map}
use Rattle.std.specs.List.{range_with_len}
use Rattle.arrays.specs.Batch as batch
use Rattle.arrays.specs.Prelude.{FieldShape}
use Rattle.arrow_json.specs.Prelude.{Table, document}
use Rattle.ends.specs.Line.{line}
use Rattle.serde_json.specs.Written.{compact_text}
use Rattle.table.specs.History.{History}

-- What one call added, column by column under the fields.
abbrev pub added_table : List FieldShape → batch.Table → Table
added_table fields t = record { rows = length t; columns = map (batch.column t) (range_with_len 0 (length fields)) }

-- The text of the file with a batch for each call, and a newline.
abbrev pub exported : List FieldShape → History → List ℕ
exported fields h = line (compact_text (document fields (map (λ e. added_table fields e.1) h)))

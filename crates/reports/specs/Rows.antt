-- The output of `head`, line by line.
use Rattle.std.specs.Prelude.{ℕ, List, ◌++◌, codes, map, take}
use Rattle.std.specs.List.{flat_map, join_with_byte, zip}
use Rattle.json.specs.Print.{quoted}
use Rattle.ends.specs.Line.{line}
use Rattle.arrays.specs.Prelude.{FieldShape, Item, Row, name_of}
use Rattle.table.specs.History.{History, rows}
use Rattle.reports.specs.Shown.{cell}

-- A name and its value. (RFC 8259, section 4)
abbrev pub member_text : FieldShape × Item → List ℕ
member_text m = quoted (name_of m.0) ++ codes ":" ++ cell m.1

-- A row as an object with a member for each field, in order: where two have one name, both stand there.
abbrev pub row_line : List FieldShape → Row → List ℕ
row_line fields row = line (codes "{" ++ join_with_byte 44 (map member_text (zip fields row)) ++ codes "}")

-- So many rows from the first on, fewer where there are fewer.
abbrev pub first_lines : ℕ → List FieldShape → History → List ℕ
first_lines count fields h = flat_map (row_line fields) (take count (rows h))

-- The output of `query`: the items of each group's key and then its aggregates, as a line, an array of JSON or a record of CSV.
use Rattle.std.specs.Prelude.{ℕ, List, ◌++◌, codes, map}
use Rattle.std.specs.List.{flat_map, join_with_byte}
use Rattle.table.specs.Prelude.{Agg, Count, Greatest, GroupShape, Least, QueryShape, Rows, Sum}
use Rattle.arrays.specs.Prelude.{Item}
use Rattle.ends.specs.Line.{line}
use Rattle.reports.specs.Csv.{csv_cell, csv_record, csv_text}
use Rattle.reports.specs.Shown.{array_text, cell}
use Rattle.reports.specs.declared.forms.Form.{Form}
use Rattle.reports.specs.declared.forms.Form.TheVariants.{Array, Line, Record}

-- The items of a group: those of its key, and then its aggregates.
abbrev pub group_items : GroupShape → List Item
group_items g = g.keys ++ g.cells

-- A line, with one space between each two.
abbrev pub group_line : GroupShape → List ℕ
group_line g = line (join_with_byte 32 (map cell (group_items g)))

abbrev pub group_lines : List GroupShape → List ℕ
group_lines groups = flat_map group_line groups

-- An array of JSON.
abbrev pub group_array : GroupShape → List ℕ
group_array g = line (array_text (map cell (group_items g)))

abbrev pub group_arrays : List GroupShape → List ℕ
group_arrays groups = flat_map group_array groups

-- The name of an aggregate, as sum(people).
abbrev pub agg_label : Agg (List ℕ) → List ℕ
agg_label Rows = codes "rows"
agg_label (Count c) = codes "count(" ++ c ++ codes ")"
agg_label (Sum c) = codes "sum(" ++ c ++ codes ")"
agg_label (Least c) = codes "least(" ++ c ++ codes ")"
agg_label (Greatest c) = codes "greatest(" ++ c ++ codes ")"

-- The names of the keys, as they stand, and those of the aggregates.
abbrev pub column_names : QueryShape (List ℕ) → List (List ℕ)
column_names q = q.by ++ map agg_label q.aggs

-- A record of names (RFC 4180, section 2, item 3), and one for each group.
abbrev pub names_record : QueryShape (List ℕ) → List ℕ
names_record q = csv_record (map csv_text (column_names q))

abbrev pub group_record : GroupShape → List ℕ
group_record g = csv_record (map csv_cell (group_items g))

abbrev pub group_records : QueryShape (List ℕ) → List GroupShape → List ℕ
group_records q groups = names_record q ++ flat_map group_record groups

-- ---- in the making

-- How a form spells an item.
abbrev pub spell : Form → Item → List ℕ
spell Line = cell
spell Array = cell
spell Record = csv_cell

-- A group in a form.
abbrev pub form_of : Form → GroupShape → List ℕ
form_of Line = group_line
form_of Array = group_array
form_of Record = group_record

-- The output of `stats`, line by line.
use Rattle.std.specs.Prelude.{ℕ, ℤ, List, [], ◌∷◌, ◌++◌, length, Bool, true, false, Option, Some, None, codes}
use Rattle.std.specs.List.{enumerate_from, range_with_len, flat_map, join_with_byte}
use Rattle.std.specs.Fmt.{decimal, signed_decimal}
use Rattle.json.specs.Print.{quoted}
use Rattle.ends.specs.Line.{line}
use Rattle.arrays.specs.Prelude.{FieldShape, Item, Items, Kind, Table, W16, W32, W64, W8, Width, column, kind_of_field, name_of}
use Rattle.arrow_json.specs.Prelude.{list_name, text_name}
use Rattle.arrays.specs.Item as item
use Rattle.arrays.specs.Kind as kind
use Rattle.table.specs.Prelude.{History, greatest_of, least_of, nulls_of, of, rows, sum_of}

-- ---- lines over plain numbers and texts

abbrev pub rows_line : ℕ → List ℕ
rows_line count = line (codes "rows " ++ decimal count)

abbrev pub worker_line : ℕ → ℕ → ℕ → List ℕ
worker_line worker calls count = line (codes "worker " ++ decimal worker ++ codes " calls " ++ decimal calls ++ codes " rows " ++ decimal count)

-- The name of an integer type: its sign and its width.
abbrev pub shown_int : Width → Bool → List ℕ
shown_int W8 true = codes "int8"
shown_int W8 false = codes "uint8"
shown_int W16 true = codes "int16"
shown_int W16 false = codes "uint16"
shown_int W32 true = codes "int32"
shown_int W32 false = codes "uint32"
shown_int W64 true = codes "int64"
shown_int W64 false = codes "uint64"

-- The name of a type. A column of texts with offsets of 32 bits is dictionary-encoded at the top, and plain inside lists.
abbrev pub shown_kind : Kind → List ℕ
shown_kind (kind.int t) = shown_int t.bits t.signed
shown_kind kind.boolean = codes "bool"
shown_kind (kind.texts w) = text_name w
shown_kind (kind.lists w k) = list_name w ++ codes "<" ++ shown_kind k ++ codes ">"
shown_kind kind.dict = codes "dictionary"

abbrev pub truth_text : Bool → List ℕ
truth_text true = codes "true"
truth_text false = codes "false"

-- Values as an array of JSON. (RFC 8259, section 5)
abbrev pub array_text : List (List ℕ) → List ℕ
array_text values = codes "[" ++ join_with_byte 44 values ++ codes "]"

-- A value as JSON: a number in decimal, a text as a string, a list as an array. (RFC 8259, sections 3 to 7)
abbrev mutual
  pub cell : Item → List ℕ
  cell item.null = codes "null"
  cell (item.int z) = signed_decimal z
  cell (item.boolean b) = truth_text b
  cell (item.text t) = quoted t
  cell (item.list xs) = array_text (cells xs)

  pub cells : Items → List (List ℕ)
  cells item.none = []
  cells (item.more x xs) = cell x ∷ cells xs

-- A statistic, a dash where there is none.
abbrev pub sum_text : Option ℤ → List ℕ
sum_text None = codes "-"
sum_text (Some number) = signed_decimal number

abbrev pub value_text : Option Item → List ℕ
value_text None = codes "-"
value_text (Some value) = cell value

abbrev pub column_line : List ℕ → Kind → ℕ → ℕ → Option ℤ → Option Item → Option Item → List ℕ
column_line name k count nulls sum least greatest = line (
    quoted name ++ codes " " ++ shown_kind k
    ++ codes " rows=" ++ decimal count
    ++ codes " nulls=" ++ decimal nulls
    ++ codes " sum=" ++ sum_text sum
    ++ codes " least=" ++ value_text least
    ++ codes " greatest=" ++ value_text greatest)

-- ---- the whole text

-- The line of a column with these items.
abbrev pub field_line : FieldShape → List Item → List ℕ
field_line f items =
    let k = kind_of_field f in
    column_line (name_of f) k (length items) (nulls_of items) (sum_of k items) (least_of k items) (greatest_of k items)

-- A line for each worker: how many tables it added, and how many rows they have together.
abbrev pub worker_lines : ℕ → History → List ℕ
worker_lines workers h = flat_map (λ w. worker_line w (length (of h w)) (length (rows (of h w)))) (range_with_len 0 workers)

-- A line for each column, over all rows.
abbrev pub column_lines : List FieldShape → Table → List ℕ
column_lines schema t = flat_map (λ p. field_line p.1 (column t p.0)) (enumerate_from 0 schema)

-- The output for so many workers, a schema and a history.
abbrev pub stats_text : ℕ → List FieldShape → History → List ℕ
stats_text workers schema h = rows_line (length (rows h)) ++ worker_lines workers h ++ column_lines schema (rows h)

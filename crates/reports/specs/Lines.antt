-- The lines of faults.
use Rattle.std.specs.Prelude.{ℕ, List, ◌++◌, ◌||◌, ◌==◌, chars, codes, cond, encode_utf8, flat_map, nat_lt}
use Rattle.std.specs.Fmt.{decimal}
use Rattle.ends.specs.Line.{message}
use Rattle.json.specs.Print.{escape_byte}
use Rattle.arrow_json.specs.Prelude.{JsonFaultKind, Step, fault_text}
use Rattle.table.specs.declared.refusal.Refusal.{Refusal}
use Rattle.table.specs.declared.refusal.Refusal.TheVariants.{SchemaDiffers, NullInNonNullable, TableFull, BookFull, TextsFull, NoMemory}

-- A character of a file's name as it is reported: a control character and the backslash as in a JSON string, any other as it is.
-- (RFC 8259, 7. Strings; U+007F, which may stand there as it is, is reported so too)
abbrev pub escaped_char : ℕ → List ℕ
escaped_char c = cond (nat_lt c 32 || (c == 92)) (escape_byte c) (cond (c == 127) (codes "\\u007f") (encode_utf8 c))

-- The name in one line.
abbrev pub escaped_name : List ℕ → List ℕ
escaped_name name = flat_map escaped_char (chars name)

abbrev pub unread_line : List ℕ → List ℕ
unread_line name = message (escaped_name name ++ codes ": cannot be read")

abbrev pub file_line : List ℕ → JsonFaultKind → List Step → List ℕ
file_line name kind path = message (escaped_name name ++ codes ": " ++ fault_text kind path)

abbrev pub query_line : List ℕ → List ℕ
query_line what = message (codes "query: " ++ what)

abbrev pub column_fault_line : List ℕ → List ℕ
column_fault_line what = message (codes "column: " ++ what)

-- How a refusal is reported: the number and the name, then each field with its value.
abbrev pub refusal_text : Refusal → List ℕ
refusal_text (SchemaDiffers column) = codes "A1 SchemaDiffers column=" ++ decimal column
refusal_text (NullInNonNullable column row) = codes "A2 NullInNonNullable column=" ++ decimal column ++ codes " row=" ++ decimal row
refusal_text TableFull = codes "A3 TableFull"
refusal_text BookFull = codes "A4 BookFull"
refusal_text (TextsFull column) = codes "A5 TextsFull column=" ++ decimal column
refusal_text NoMemory = codes "A6 NoMemory"

abbrev pub refusal_line : List ℕ → ℕ → Refusal → List ℕ
refusal_line name number refusal = message (escaped_name name ++ codes ": batch " ++ decimal number ++ codes ": " ++ refusal_text refusal)

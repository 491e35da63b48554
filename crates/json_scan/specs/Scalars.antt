-- The values that are neither arrays nor objects. (RFC 8259, sections 3, 6 and 7)
use Rattle.std.specs.Prelude.{◌≡◌, ℕ, ◌==◌, ◌||◌, ℤ, List, map, Bool, Option, Some, None}
use Rattle.std.specs.Char.{is_ascii_digit}
use Rattle.json.specs.Lex.{lex, between, in_string}
use Rattle.json.specs.Text.{content, plain}
use Rattle.serde_json.specs.Data.{Data, null, boolean, number, string, array, object}
use Rattle.serde_json.specs.Find.{as_integer}
use Rattle.json_scan.specs.declared.literal.Literal.{Literal}
use Rattle.json_scan.specs.declared.literal.Literal.TheVariants.{Null, Bool as BoolLiteral}

abbrev pub literal_data : Literal → Data
literal_data Null = null
literal_data (BoolLiteral b) = boolean b

-- A number begins with a minus or a digit.
abbrev pub begins_number : ℕ → Bool
begins_number x = (x == 45) || is_ascii_digit x

-- The integer of a number; of another value there is none.
abbrev pub number_integer : Data → Option ℤ
number_integer null = None
number_integer (boolean b) = None
number_integer (number n) = as_integer n
number_integer (string s) = None
number_integer (array ds) = None
number_integer (object ms) = None

-- The values are numbers, and these are their integers.
abbrev pub AreIntegers : List Data → List ℤ → Type 0
AreIntegers ds zs = map number_integer ds ≡ map Some zs

-- After the quote that opens a string the text xs has the string s and the quote that closes it, and ys follows it.
abbrev pub IsTextBody : List ℕ → List ℕ → List ℕ → Type 0
IsTextBody xs s ys = (content plain xs ≡ Some s) × (lex in_string xs ≡ lex between ys)

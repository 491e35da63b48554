-- What an expression's object is, and the names of operators. (JSON: RFC 8259)
use Rattle.std.specs.Prelude.{ℕ, ℤ, List, [], ◌∷◌, codes, Bool, true, false, Option, Some, None, is_some}
use Rattle.std.specs.Option.{option_or}
use Rattle.std.specs.Map.{lookup}
use Rattle.std.specs.Str.{bytes_eq}
use Rattle.arrays.specs.Prelude.{IntType, W64, int64}
use Rattle.query.specs.declared.expr.Op.{Op}
use Rattle.query.specs.declared.expr.Op.TheVariants as op
use Rattle.json_base.specs.Prelude.{Data, integer_of, member_of}
use Rattle.json_base.specs.declared.path.Member.{Member}
use Rattle.json_base.specs.declared.path.Member.TheVariants as member
use Rattle.json_query.specs.declared.form.Form.{Form}
use Rattle.json_query.specs.declared.form.Form.TheVariants as form

-- ---- the four members

abbrev pub has : Member → Data → Bool
has m d = is_some (member_of m d)

-- The form that is alone among the four.
abbrev pub only_form : Bool → Bool → Bool → Bool → Option Form
only_form true false false false = Some form.Column
only_form false true false false = Some form.Int
only_form false false true false = Some form.Text
only_form false false false true = Some form.Op
only_form a b c d = None

-- The form of an object that has exactly one of `column`, `int`, `text` and `op`.
abbrev pub form_of : Data → Option Form
form_of d = only_form (has member.Column d) (has member.Int d) (has member.Text d) (has member.Op d)

-- ---- whole numbers

abbrev pub uint64 : IntType
uint64 = record { bits = W64; signed = false }

-- A whole number from -2^63 to 2^64 - 1, spelled as a number or as a text: an integer of signed or of unsigned 64 bits.
unfoldable pub literal_of : Data → Option ℤ
literal_of d = option_or (integer_of int64 d) (integer_of uint64 d)

-- ---- operators

abbrev pub op_name : Op → List ℕ
op_name op.Add = codes "add"
op_name op.Sub = codes "sub"
op_name op.Mul = codes "mul"
op_name op.Eq = codes "eq"
op_name op.Ne = codes "ne"
op_name op.Lt = codes "lt"
op_name op.Le = codes "le"
op_name op.Gt = codes "gt"
op_name op.Ge = codes "ge"
op_name op.And = codes "and"
op_name op.Or = codes "or"
op_name op.Not = codes "not"
op_name op.IsNull = codes "is_null"

abbrev pub op_names : List (List ℕ × Op)
op_names =
    (op_name op.Add, op.Add) ∷ (op_name op.Sub, op.Sub) ∷ (op_name op.Mul, op.Mul) ∷ (op_name op.Eq, op.Eq) ∷ (op_name op.Ne, op.Ne)
    ∷ (op_name op.Lt, op.Lt) ∷ (op_name op.Le, op.Le) ∷ (op_name op.Gt, op.Gt) ∷ (op_name op.Ge, op.Ge)
    ∷ (op_name op.And, op.And) ∷ (op_name op.Or, op.Or) ∷ (op_name op.Not, op.Not) ∷ (op_name op.IsNull, op.IsNull) ∷ []

abbrev pub op_named : List ℕ → Option Op
op_named bytes = lookup (bytes_eq bytes) op_names

-- How many operands an operator has.
abbrev pub operand_count : Op → ℕ
operand_count op.Not = 1
operand_count op.IsNull = 1
operand_count o = 2

-- What kind of value an expression has, by the typing rules of queries.
use Rattle.std.specs.Prelude.{Bool, true, false, ◌&&◌, if◌then◌else◌, Option, Some, None, option_and_then}
use Rattle.types.specs.declared.int_type.IntType.{IntType}
use Rattle.types.specs.Kind as kind
use Rattle.types.specs.Prelude.{Kind, int64, is_of_type, same_int}
use Rattle.query.specs.declared.expr.Op.{Op}
use Rattle.query.specs.declared.expr.Op.TheVariants as op
use Rattle.query.specs.declared.sort.Sort.{Sort}
use Rattle.query.specs.declared.sort.Sort.TheVariants as sort
use Rattle.query.specs.declared.sort.Sort.TheVariants.{Literal, Int, Truth, Text}

-- The sort of a column.
abbrev pub sort_of_kind : Kind → Sort
sort_of_kind (kind.int t) = Int t
sort_of_kind kind.boolean = Truth
sort_of_kind (kind.texts w) = Text
sort_of_kind (kind.lists w k) = sort.List
sort_of_kind kind.dict = Text

-- ---- literals

-- The type of a literal that stands directly beside this: its own, if it is of an integer type and no literal.
abbrev pub type_beside : Sort → IntType
type_beside (Int t) = t
type_beside s = int64

-- The sort where literals are of this type; none, where one doesn't fit it.
abbrev pub settled : IntType → Sort → Option Sort
settled t (Literal z) = if is_of_type t z then Some (Int t) else None
settled t s = Some s

-- ---- what operators take and give

abbrev pub is_int : Sort → Bool
is_int (Int t) = true
is_int s = false

abbrev pub is_truth : Sort → Bool
is_truth Truth = true
is_truth s = false

-- Of an integer type, a truth value or a text.
abbrev pub is_plain : Sort → Bool
is_plain (Int t) = true
is_plain Truth = true
is_plain Text = true
is_plain s = false

-- Two of one integer type, two truth values, or two texts.
abbrev pub is_alike : Sort → Sort → Bool
is_alike (Int s) (Int t) = same_int s t
is_alike Truth Truth = true
is_alike Text Text = true
is_alike s t = false

abbrev pub arithmetic : Sort → Sort → Option Sort
arithmetic s t = if is_int s && is_alike s t then Some s else None

abbrev pub comparison : Sort → Sort → Option Sort
comparison s t = if is_alike s t then Some Truth else None

abbrev pub junction : Sort → Sort → Option Sort
junction s t = if is_truth s && is_truth t then Some Truth else None

abbrev pub of_one : Op → Sort → Option Sort
of_one op.Not s = if is_truth s then Some Truth else None
of_one op.IsNull s = Some Truth
of_one o s = None

abbrev pub of_two : Op → Sort → Sort → Option Sort
of_two op.Add s t = arithmetic s t
of_two op.Sub s t = arithmetic s t
of_two op.Mul s t = arithmetic s t
of_two op.Eq s t = comparison s t
of_two op.Ne s t = comparison s t
of_two op.Lt s t = comparison s t
of_two op.Le s t = comparison s t
of_two op.Gt s t = comparison s t
of_two op.Ge s t = comparison s t
of_two op.And s t = junction s t
of_two op.Or s t = junction s t
of_two o s t = None

-- The sort of an operator over operands of these sorts.
abbrev pub sort_of_one : Op → Sort → Option Sort
sort_of_one o s = option_and_then (of_one o) (settled int64 s)

abbrev pub sort_of_two : Op → Sort → Sort → Option Sort
sort_of_two o s t = option_and_then (λ a. option_and_then (λ b. of_two o a b) (settled (type_beside s) t)) (settled (type_beside t) s)

-- The expression that an object spells. (JSON: RFC 8259)
use Rattle.std.specs.Prelude.{ℕ, zero, suc, ◌==◌, List, [], ◌∷◌, string_bytes, Bool, true, Option, Some, None, Ok, Err}
use Rattle.std.specs.declared.string.String.{String}
use Rattle.std.specs.declared.alloc.Global.{Global}
use Rattle.query.specs.declared.expr.Op.{Op}
use Rattle.query.specs.declared.expr.Expr.{Expr}
use Rattle.query.specs.Prelude.{Tree, column, int, op, renamed, text, tree_of, trees}
use Rattle.json_base.specs.Prelude.{Data, Items, depth, fault_at, items_len}
use Rattle.json_base.specs.declared.path.Member.TheVariants as member
use Rattle.json_base.specs.declared.path.Step.TheVariants as step
use Rattle.json_base.specs.declared.fault.JsonFaultKind.TheVariants.{WrongMember, BadNumber}
use Rattle.json_query.specs.Reading.{JsonReading, wanted, chain, mapped, both, tested, if_object, required, text_in, array_in, items, each_item}
use Rattle.json_query.specs.QueryForm.{form_of, literal_of, op_named, operand_count}
use Rattle.json_query.specs.declared.form.Form.{Form}
use Rattle.json_query.specs.declared.form.Form.TheVariants as form

abbrev pub operator_of : Data → JsonReading Op
operator_of d = chain (text_in member.Op d) (λ name. wanted WrongMember (step.Member member.Op ∷ []) (op_named name))

-- The arguments are as many as the operator has operands, if it is known.
abbrev pub are_counted : JsonReading Op → Items → Bool
are_counted (Ok o) args = items_len args == operand_count o
are_counted (Err faults) args = true

-- What each of the arguments spells, which are to be as many as that.
abbrev pub operands : (Data → JsonReading (Tree (List ℕ))) → JsonReading Op → Items → JsonReading (List (Tree (List ℕ)))
operands r o args = tested (are_counted o args) (each_item r args)

-- What an operator of this name spells over these arguments.
abbrev pub operation : (Data → JsonReading (Tree (List ℕ))) → JsonReading Op → JsonReading Items → JsonReading (Tree (List ℕ))
operation r named args = both (λ o ts. op o (trees ts)) named (items member.Args args (operands r named))

-- What an object of the form spells, and what its arguments do.
abbrev pub formed : (Data → JsonReading (Tree (List ℕ))) → Data → Option Form → JsonReading (Tree (List ℕ))
formed r d None = Err (fault_at WrongMember [] ∷ [])
formed r d (Some form.Column) = mapped column (text_in member.Column d)
formed r d (Some form.Int) = mapped int (required member.Int BadNumber literal_of d)
formed r d (Some form.Text) = mapped text (text_in member.Text d)
formed r d (Some form.Op) = operation r (operator_of d) (array_in member.Args d)

-- An expression, of a value that is less than n deep.
abbrev pub expr_within : ℕ → Data → JsonReading (Tree (List ℕ))
expr_within zero d = Err (fault_at WrongMember [] ∷ [])
expr_within (suc n) d = if_object d (formed (expr_within n) d (form_of d))

-- An expression, as deep as its value is.
abbrev pub expr : Data → JsonReading (Tree (List ℕ))
expr d = expr_within (suc (depth d)) d

-- An expression as a plain value, its columns called by the bytes of their names.
abbrev pub named_tree : Expr (String Global) → Tree (List ℕ)
named_tree e = renamed string_bytes (tree_of e)

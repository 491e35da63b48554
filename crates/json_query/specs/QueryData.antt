-- A query as a document that spells it. (JSON: RFC 8259)
use Rattle.std.specs.Prelude.{◌≡◌, ◌⊎◌, ◌≤◌, ℕ, suc, List, [], ◌∷◌, codes, length, true, Option, Some, None, IfSome, ⊤}
use Rattle.arrays.specs.Prelude.{int64, is_of_type}
use Rattle.query.specs.declared.expr.Agg.{Agg}
use Rattle.query.specs.declared.expr.Agg.TheVariants.{Rows, Count, Sum, Least, Greatest}
use Rattle.query.specs.Prelude.{QueryShape, Tree, Trees, column, int, none, one, op, text}
use Rattle.json_base.specs.Prelude.{Data, Items, Members, array, item, member, member_name, no_items, no_members, number, object, of_integer, string}
use Rattle.json_base.specs.declared.path.Member.{Member}
use Rattle.json_base.specs.declared.path.Member.TheVariants as member
use Rattle.json_query.specs.QueryForm.{op_name, operand_count, uint64}

-- ---- objects of one member and of two, whose names are in order

abbrev pub single : Member → Data → Data
single m d = object (member (member_name m) d no_members)

abbrev pub couple : Member → Data → Member → Data → Data
couple m d n e = object (member (member_name m) d (member (member_name n) e no_members))

-- ---- the parts of a query

abbrev mutual
  pub expr_data : Tree (List ℕ) → Data
  expr_data (column name) = single member.Column (string name)
  expr_data (int z) = single member.Int (number (of_integer z))
  expr_data (text bytes) = single member.Text (string bytes)
  expr_data (op o operands) = couple member.Args (array (operands_data operands)) member.Op (string (op_name o))

  pub operands_data : Trees (List ℕ) → Items
  operands_data none = no_items
  operands_data (one t ts) = item (expr_data t) (operands_data ts)

abbrev pub agg_data : Agg (List ℕ) → Data
agg_data Rows = single member.Agg (string (codes "rows"))
agg_data (Count name) = couple member.Agg (string (codes "count")) member.Column (string name)
agg_data (Sum name) = couple member.Agg (string (codes "sum")) member.Column (string name)
agg_data (Least name) = couple member.Agg (string (codes "least")) member.Column (string name)
agg_data (Greatest name) = couple member.Agg (string (codes "greatest")) member.Column (string name)

-- What each of a list is, as an array.
abbrev pub each_data : {A : Type 0} → (A → Data) → List A → Items
each_data data_of [] = no_items
each_data data_of (x ∷ xs) = item (data_of x) (each_data data_of xs)

-- A filter is a member where there is one.
abbrev pub filter_data : Option (Tree (List ℕ)) → Members
filter_data None = no_members
filter_data (Some t) = member (member_name member.Filter) (expr_data t) no_members

abbrev pub query_data : QueryShape (List ℕ) → Data
query_data q =
    object
    (member (member_name member.Aggs) (array (each_data agg_data q.aggs))
    (member (member_name member.By) (array (each_data string q.by)) (filter_data q.filter)))

-- ---- which queries have one

abbrev pub tree_count : Trees (List ℕ) → ℕ
tree_count none = 0
tree_count (one t ts) = suc (tree_count ts)

-- Each whole number has 64 bits, with a sign or without, and each operator as many operands as it wants.
abbrev mutual
  pub HasDocument : Tree (List ℕ) → Type 0
  HasDocument (column name) = ⊤
  HasDocument (int z) = (is_of_type int64 z ≡ true) ⊎ (is_of_type uint64 z ≡ true)
  HasDocument (text bytes) = ⊤
  HasDocument (op o operands) = (tree_count operands ≡ operand_count o) × HaveDocuments operands

  pub HaveDocuments : Trees (List ℕ) → Type 0
  HaveDocuments none = ⊤
  HaveDocuments (one t ts) = HasDocument t × HaveDocuments ts

-- A query within the limits of the language.
pub record IsWithinLimits (q : QueryShape (List ℕ)) : Type 0 where
  pub filter : IfSome q.filter HasDocument
  pub by : length q.by ≤ 4

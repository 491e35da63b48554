-- What is written of a query is read as the query.
use Rattle.std.proofs.Common.{◌≡◌, ◌⊎◌, inl, inr, ℕ, zero, suc, ◌+◌, ◌≤◌, ℤ, pos, negsuc, List, [], ◌∷◌, length, Bool, true, false, if◌then◌else◌, Option, None, Some, Ok, IfSome, refl, ap, arith}
use Rattle.std.specs.Option.{option_or}
use Rattle.std.proofs.lemmas.Bool.{eq-eqb, le-leb}
use Rattle.arrays.specs.Prelude.{int64, is_of_type}
use Rattle.query.specs.declared.expr.Agg.{Agg}
use Rattle.query.specs.declared.expr.Agg.TheVariants.{Rows, Count, Sum, Least, Greatest}
use Rattle.query.specs.declared.expr.Op.{Op}
use Rattle.query.specs.declared.expr.Op.TheVariants as operator
use Rattle.query.specs.Prelude.{QueryShape, Tree, Trees, column, int, none, one, op, text, trees}
use Rattle.json_base.specs.Prelude.{Data, as_null, as_str, depth, items_depth, items_len, number, of_integer, string}
use Rattle.json_base.specs.JsonNumber.{whole_of}
use Rattle.json_base.specs.declared.fault.JsonFaultKind.TheVariants.{WrongMember}
use Rattle.json_query.specs.Prelude.{HasDocument, HaveDocuments, IsWithinLimits, JsonReading, agg, agg_data, aggs, by, each_data, each_from, each_item, expr_data, expr_within, filter, key_names, list_in, op_name, operand_count, operands_data, query_data, query_of, tree_count, wanted}
use Rattle.json_query.specs.QueryExpr.{operation}
use Rattle.json_query.specs.QueryForm.{literal_of, op_named, uint64}

-- ---- names and numbers

op_again : (o : Op) → op_named (op_name o) ≡ Some o
op_again operator.Add = refl
op_again operator.Sub = refl
op_again operator.Mul = refl
op_again operator.Eq = refl
op_again operator.Ne = refl
op_again operator.Lt = refl
op_again operator.Le = refl
op_again operator.Gt = refl
op_again operator.Ge = refl
op_again operator.And = refl
op_again operator.Or = refl
op_again operator.Not = refl
op_again operator.IsNull = refl

whole_again : (z : ℤ) → whole_of (number (of_integer z)) ≡ Some z
whole_again (pos n) = refl
whole_again (negsuc n) = refl

of_either : (z : ℤ) (a b : Bool) → (a ≡ true) ⊎ (b ≡ true) → option_or (if a then Some z else None) (if b then Some z else None) ≡ Some z
of_either z true b h = refl
of_either z false true h = refl
of_either z false false (inl h) = absurd cc
of_either z false false (inr h) = absurd cc

literal_again : (z : ℤ) → (is_of_type int64 z ≡ true) ⊎ (is_of_type uint64 z ≡ true) → literal_of (number (of_integer z)) ≡ Some z
unfolding literal_of
literal_again z h = rw (whole_again z) (of_either z (is_of_type int64 z) (is_of_type uint64 z) h)

-- ---- lists

each_again : {A : Type 0} (r : Data → JsonReading A) (data_of : A → Data) → ((x : A) → r (data_of x) ≡ Ok x) → (n : ℕ) (xs : List A) → each_from n r (each_data data_of xs) ≡ Ok xs
each_again r data_of again n [] = refl
each_again r data_of again n (x ∷ xs) = rw (again x, each_again r data_of again (n + 1) xs) refl

data_count : {A : Type 0} (data_of : A → Data) (xs : List A) → items_len (each_data data_of xs) ≡ length xs
data_count data_of [] = refl
data_count data_of (x ∷ xs) = ap suc (data_count data_of xs)

-- ---- expressions

abbrev tree_list : Trees (List ℕ) → List (Tree (List ℕ))
tree_list none = []
tree_list (one t ts) = t ∷ tree_list ts

trees_again : (ts : Trees (List ℕ)) → trees (tree_list ts) ≡ ts
trees_again none = refl
trees_again (one t ts) = ap (one t) (trees_again ts)

operands_count : (ts : Trees (List ℕ)) → items_len (operands_data ts) ≡ tree_count ts
operands_count none = refl
operands_count (one t ts) = ap suc (operands_count ts)

operation_again : (r : Data → JsonReading (Tree (List ℕ))) (o : Op) (ts : Trees (List ℕ)) → tree_count ts ≡ operand_count o → each_item r (operands_data ts) ≡ Ok (tree_list ts)
    → operation r (Ok o) (Ok (operands_data ts)) ≡ Ok (op o ts)
operation_again r o ts count each = rw (operands_count ts, eq-eqb (tree_count ts) (operand_count o) count, each) (ap (λ us. Ok (op o us)) (trees_again ts))

mutual
  expr_again : (t : Tree (List ℕ)) (n : ℕ) → HasDocument t → depth (expr_data t) ≤ n → expr_within (suc n) (expr_data t) ≡ Ok t
  expr_again (column name) n has deep = refl
  expr_again (int z) n has deep = rw (literal_again z has) refl
  expr_again (text bytes) n has deep = refl
  expr_again (op o ts) zero has deep = absurd (omega (arith, deep))
  expr_again (op o ts) (suc k) has deep = rw (op_again o) (operation_again (expr_within (suc k)) o ts has.0 (operands_again ts k 0 has.1 (omega (arith, deep))))

  operands_again : (ts : Trees (List ℕ)) (n i : ℕ) → HaveDocuments ts → items_depth (operands_data ts) ≤ n → each_from i (expr_within (suc n)) (operands_data ts) ≡ Ok (tree_list ts)
  operands_again none n i have deep = refl
  operands_again (one t ts) n i have deep = rw (expr_again t n have.0 (omega (arith, deep)), operands_again ts n (i + 1) have.1 (omega (arith, deep))) refl

no_null : (t : Tree (List ℕ)) → as_null (expr_data t) ≡ None
no_null (column name) = refl
no_null (int z) = refl
no_null (text bytes) = refl
no_null (op o ts) = refl

-- ---- queries

agg_again : (a : Agg (List ℕ)) → agg (agg_data a) ≡ Ok a
agg_again Rows = refl
agg_again (Count name) = refl
agg_again (Sum name) = refl
agg_again (Least name) = refl
agg_again (Greatest name) = refl

names_again : (names : List (List ℕ)) → length names ≤ 4 → key_names (each_data string names) ≡ Ok names
unfolding key_names
names_again names few = rw (data_count string names, le-leb (length names) 4 few) (each_again (λ d. wanted WrongMember [] (as_str d)) string (λ name. refl) 0 names)

module _ (names : List (List ℕ)) (few : length names ≤ 4) (all : List (Agg (List ℕ))) where
  by_again : (filter : Option (Tree (List ℕ))) → by (query_data record { filter = filter; by = names; aggs = all }) ≡ Ok names
  unfolding by list_in
  by_again None = rw (names_again names few) refl
  by_again (Some t) = rw (names_again names few) refl

  aggs_again : (filter : Option (Tree (List ℕ))) → aggs (query_data record { filter = filter; by = names; aggs = all }) ≡ Ok all
  unfolding aggs list_in
  aggs_again None = rw (each_again agg agg_data agg_again 0 all) refl
  aggs_again (Some t) = rw (each_again agg agg_data agg_again 0 all) refl

  filter_again : (f : Option (Tree (List ℕ))) → IfSome f HasDocument → filter (query_data record { filter = f; by = names; aggs = all }) ≡ Ok f
  unfolding filter
  filter_again None has = refl
  filter_again (Some t) has = rw (no_null t, expr_again t (depth (expr_data t)) has (omega arith)) refl

pub query_again : (q : QueryShape (List ℕ)) → IsWithinLimits q → query_of (query_data q) ≡ Ok q
query_again q within =
    rw (filter_again q.by within.by q.aggs q.filter within.filter, by_again q.by within.by q.aggs q.filter, aggs_again q.by within.by q.aggs q.filter) refl

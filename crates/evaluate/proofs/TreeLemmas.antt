-- The values of operators by those of their operands.
use Rattle.std.proofs.Common.{◌≡◌, ◌≢◌, ◌∙◌, ℕ, List, [], ◌∷◌, map, length, get_or, true, is_some, is_ok, Option, Some, None, Result, Ok, Err, IfOk, IfErr, IsErrAnd, ap, ap₂, sym, subst, refl, true≢false, arith}
use Rattle.std.specs.Prelude.{option_and_then}
use Rattle.std.specs.Option.{ok_or}
use Rattle.arrays.specs.Prelude.{Batch, FieldShape, Item, Row}
use Rattle.query.specs.Prelude.{Tree, all_checked, and_then, checked, none, one, op, sort_at, sort_of_one, sort_of_operator, sort_of_two, tree_of, trees}
use Rattle.std.specs.declared.vec.Vec.{Vec}
use Rattle.std.specs.declared.alloc.Global.{Global}
use Rattle.query.specs.declared.expr.Expr.{Expr}
use Rattle.query.specs.declared.expr.Op.{Op}
use Rattle.query.specs.declared.fault.QueryFault.{QueryFault}
use Rattle.query.specs.declared.fault.QueryFault.TheVariants.{WrongKind}
use Rattle.query.specs.declared.sort.Sort.{Sort}
use Rattle.evaluate.specs.Prelude.{AreMade, AreValues, StopsAt, StopsMaking, bounded_by, bounded_in, item_in, of_one, of_operands, of_two, row_in, sort_in, value}
use Rattle.evaluate.specs.declared.stop.Stop.{Stop}
use Rattle.evaluate.specs.declared.stop.Stop.TheVariants.{Bad, NoMemory}
use Rattle.evaluate.specs.declared.values.Values.{Values}

bounded_by-ok_or : (s : Option Sort) (x : Item) → bounded_in (ok_or s WrongKind) x ≡ bounded_by s x
bounded_by-ok_or None x = refl
bounded_by-ok_or (Some s) x = refl

found : (s : Option Sort) → is_ok (ok_or s WrongKind) ≡ true → is_some s ≡ true
found None h = h
found (Some s) h = refl

ok_some : (s : Option Sort) (t : Sort) → s ≡ Some t → ok_or s WrongKind ≡ Ok t
ok_some s t h = ap (λ o. ok_or o WrongKind) h

-- ---- one operand

module _ (fields : List FieldShape) (o : Op) (a : Tree ℕ) where
  abbrev tree : Tree ℕ
  tree = op o (one a none)

  sort_one : (s : Sort) → checked (sort_at fields) a ≡ Ok s → checked (sort_at fields) tree ≡ ok_or (sort_of_one o s) WrongKind
  sort_one s is = ap (λ r. and_then (and_then r (λ t. Ok (t ∷ []))) (λ sorts. ok_or (sort_of_operator o sorts) WrongKind)) is

  pub outer_one : (s : Sort) → checked (sort_at fields) a ≡ Ok s → is_ok (checked (sort_at fields) tree) ≡ true → is_some (sort_of_one o s) ≡ true
  outer_one s is h = found (sort_of_one o s) (ap is_ok (sym (sort_one s is)) ∙ h)

  value_one : (row : Row) (s : Sort) (x : Item) → checked (sort_at fields) a ≡ Ok s → value fields row a ≡ Some x → value fields row tree ≡ bounded_by (sort_of_one o s) (of_one o x)
  value_one row s x is here =
      ap (λ v. option_and_then (λ xs. bounded_in (checked (sort_at fields) tree) (of_operands o xs)) (option_and_then (λ y. Some (y ∷ [])) v)) here
      ∙ ap (λ r. bounded_in r (of_one o x)) (sort_one s is)
      ∙ bounded_by-ok_or (sort_of_one o s) (of_one o x)

pub made_one : (b : Batch) (start n : ℕ) (o : Op) (a : Tree ℕ) (va v : Values) → AreValues b start n a va
    → AreMade (sort_of_one o (sort_in va)) (λ i. of_one o (item_in va i)) n v → AreValues b start n (op o (one a none)) v
made_one b start n o a va v inner made = record {
  sort = sort_one b.fields o a (sort_in va) inner.sort ∙ ok_some (sort_of_one o (sort_in va)) (sort_in v) made.sort;
  enough = made.enough;
  each = λ i below. value_one b.fields o a (row_in b start i) (sort_in va) (item_in va i) inner.sort (inner.each i below) ∙ made.each i below;
}

-- ---- two operands

module _ (fields : List FieldShape) (o : Op) (a b : Tree ℕ) where
  abbrev pair : Tree ℕ
  pair = op o (one a (one b none))

  abbrev sorted : Result Sort QueryFault → Result Sort QueryFault → Result Sort QueryFault
  sorted r s = and_then (and_then r (λ t. and_then (and_then s (λ u. Ok (u ∷ []))) (λ us. Ok (t ∷ us)))) (λ sorts. ok_or (sort_of_operator o sorts) WrongKind)

  abbrev valued : Option Item → Option Item → Option Item
  valued v w = option_and_then (λ xs. bounded_in (checked (sort_at fields) pair) (of_operands o xs)) (option_and_then (λ x. option_and_then (λ xs. Some (x ∷ xs)) (option_and_then (λ y. Some (y ∷ [])) w)) v)

  sort_two : (s t : Sort) → checked (sort_at fields) a ≡ Ok s → checked (sort_at fields) b ≡ Ok t → checked (sort_at fields) pair ≡ ok_or (sort_of_two o s t) WrongKind
  sort_two s t left right = ap (λ r. sorted r (checked (sort_at fields) b)) left ∙ ap (λ r. sorted (Ok s) r) right

  pub outer_two : (s t : Sort) → checked (sort_at fields) a ≡ Ok s → checked (sort_at fields) b ≡ Ok t → is_ok (checked (sort_at fields) pair) ≡ true → is_some (sort_of_two o s t) ≡ true
  outer_two s t left right h = found (sort_of_two o s t) (ap is_ok (sym (sort_two s t left right)) ∙ h)

  value_two : (row : Row) (s t : Sort) (x y : Item) → checked (sort_at fields) a ≡ Ok s → checked (sort_at fields) b ≡ Ok t → value fields row a ≡ Some x → value fields row b ≡ Some y
      → value fields row pair ≡ bounded_by (sort_of_two o s t) (of_two o x y)
  value_two row s t x y left right here there =
      ap (λ v. valued v (value fields row b)) here ∙ ap (λ w. valued (Some x) w) there
      ∙ ap (λ r. bounded_in r (of_two o x y)) (sort_two s t left right)
      ∙ bounded_by-ok_or (sort_of_two o s t) (of_two o x y)

  value_left_bad : (row : Row) → value fields row a ≡ None → value fields row pair ≡ None
  value_left_bad row here = ap (λ v. valued v (value fields row b)) here

  value_right_bad : (row : Row) → value fields row b ≡ None → value fields row pair ≡ None
  value_right_bad row there = ap (λ w. valued (value fields row a) w) there ∙ go (value fields row a) where
    go : (v : Option Item) → valued v None ≡ None
    go None = refl
    go (Some x) = refl

pub made_two : (batch : Batch) (start n : ℕ) (o : Op) (a b : Tree ℕ) (va vb v : Values) → AreValues batch start n a va → AreValues batch start n b vb
    → AreMade (sort_of_two o (sort_in va) (sort_in vb)) (λ i. of_two o (item_in va i) (item_in vb i)) n v → AreValues batch start n (op o (one a (one b none))) v
made_two batch start n o a b va vb v left right made = record {
  sort = sort_two batch.fields o a b (sort_in va) (sort_in vb) left.sort right.sort ∙ ok_some (sort_of_two o (sort_in va) (sort_in vb)) (sort_in v) made.sort;
  enough = made.enough;
  each = λ i below.
      value_two batch.fields o a b (row_in batch start i) (sort_in va) (sort_in vb) (item_in va i) (item_in vb i) left.sort right.sort (left.each i below) (right.each i below) ∙ made.each i below;
}

pub stops_two : (batch : Batch) (start n : ℕ) (o : Op) (a b : Tree ℕ) (va vb : Values) (e : Stop) → AreValues batch start n a va → AreValues batch start n b vb
    → StopsMaking (sort_of_two o (sort_in va) (sort_in vb)) (λ i. of_two o (item_in va i) (item_in vb i)) n e → StopsAt batch start n (op o (one a (one b none))) e
stops_two batch start n o a b va vb (Bad row) left right at =
    (at.0, value_two batch.fields o a b (row_in batch start row) (sort_in va) (sort_in vb) (item_in va row) (item_in vb row) left.sort right.sort (left.each row at.0) (right.each row at.0) ∙ at.1)
stops_two batch start n o a b va vb NoMemory left right at = tt

pub stops_left : (batch : Batch) (start n : ℕ) (o : Op) (a b : Tree ℕ) (e : Stop) → StopsAt batch start n a e → StopsAt batch start n (op o (one a (one b none))) e
stops_left batch start n o a b (Bad row) at = (at.0, value_left_bad batch.fields o a b (row_in batch start row) at.1)
stops_left batch start n o a b NoMemory at = tt

pub stops_right : (batch : Batch) (start n : ℕ) (o : Op) (a b : Tree ℕ) (e : Stop) → StopsAt batch start n b e → StopsAt batch start n (op o (one a (one b none))) e
stops_right batch start n o a b (Bad row) at = (at.0, value_right_bad batch.fields o a b (row_in batch start row) at.1)
stops_right batch start n o a b NoMemory at = tt

-- ---- trees of expressions

pub tree_one : (e : Expr ℕ) (o : Op) (v : Vec (Expr ℕ) Global) (xs : List (Expr ℕ)) (x : Expr ℕ) → tree_of e ≡ op o (trees (map tree_of v.items)) → xs ≡ v.items → length xs ≡ 1
    → x ≡ get_or xs 0 x → tree_of e ≡ op o (one (tree_of x) none)
tree_one e o v [] x is same long first = absurd (omega (arith, long))
tree_one e o v (y ∷ []) x is same long first = is ∙ ap (λ ys. op o (trees (map tree_of ys))) (sym same) ∙ ap (λ z. op o (one (tree_of z) none)) (sym first)
tree_one e o v (y ∷ z ∷ xs) x is same long first = absurd (omega (arith, long))

pub tree_two : (e : Expr ℕ) (o : Op) (v : Vec (Expr ℕ) Global) (xs : List (Expr ℕ)) (x y : Expr ℕ) → tree_of e ≡ op o (trees (map tree_of v.items)) → xs ≡ v.items → length xs ≡ 2
    → x ≡ get_or xs 0 x → y ≡ get_or xs 1 y → tree_of e ≡ op o (one (tree_of x) (one (tree_of y) none))
tree_two e o v [] x y is same long first second = absurd (omega (arith, long))
tree_two e o v (a ∷ []) x y is same long first second = absurd (omega (arith, long))
tree_two e o v (a ∷ b ∷ []) x y is same long first second =
    is ∙ ap (λ ys. op o (trees (map tree_of ys))) (sym same) ∙ ap₂ (λ s t. op o (one (tree_of s) (one (tree_of t) none))) (sym first) (sym second)
tree_two e o v (a ∷ b ∷ d ∷ xs) x y is same long first second = absurd (omega (arith, long))

-- An operator over no operands, or over three and more, has no sort.
pub no_sort : (sort_in : ℕ → Result Sort QueryFault) (o : Op) (xs : List (Expr ℕ)) → length xs ≢ 1 → length xs ≢ 2 → is_ok (checked sort_in (op o (trees (map tree_of xs)))) ≡ true → ⊥
no_sort sorts o [] not_one not_two h = true≢false (sym h)
no_sort sorts o (x ∷ []) not_one not_two h = not_one refl
no_sort sorts o (x ∷ y ∷ []) not_one not_two h = not_two refl
no_sort sorts o (x ∷ y ∷ z ∷ xs) not_one not_two h =
    go (checked sorts (tree_of x)) (checked sorts (tree_of y)) (checked sorts (tree_of z)) (all_checked sorts (trees (map tree_of xs))) h where
      go : (r s t : Result Sort QueryFault) (rest : Result (List Sort) QueryFault)
          → is_ok (and_then (and_then r (λ a. and_then (and_then s (λ b. and_then (and_then t (λ c. and_then rest (λ ss. Ok (c ∷ ss)))) (λ ss. Ok (b ∷ ss)))) (λ ss. Ok (a ∷ ss)))) (λ sorts. ok_or (sort_of_operator o sorts) WrongKind)) ≡ true → ⊥
      go (Err e) s t rest h = true≢false (sym h)
      go (Ok a) (Err e) t rest h = true≢false (sym h)
      go (Ok a) (Ok b) (Err e) rest h = true≢false (sym h)
      go (Ok a) (Ok b) (Ok c) (Err e) h = true≢false (sym h)
      go (Ok a) (Ok b) (Ok c) (Ok ss) h = true≢false (sym h)

-- What an operand stops with, its operator stops with.
pub passed_on : {T : Type 0} (r : Result T Stop) (e : Stop) (P : Stop → Type 0) → IsErrAnd r (λ f. f ≡ e) → P e → IfErr r P
passed_on (Ok v) e P same p = tt
passed_on (Err f) e P same p = subst P (sym same) p

-- Want of memory stops anything.
pub wants_memory : (b : Batch) (start n : ℕ) (t : Tree ℕ) (r : Result Values Stop) → IfErr r (λ e. e ≡ NoMemory) → IfErr r (StopsAt b start n t)
wants_memory b start n t (Ok v) h = tt
wants_memory b start n t (Err e) h = subst (StopsAt b start n t) (sym h) tt

pub made_so : (b : Batch) (start n : ℕ) (t : Tree ℕ) (r : Result Values Stop) (Made : Values → Type 0) → ((v : Values) → Made v → AreValues b start n t v) → IfOk r Made → IfOk r (AreValues b start n t)
made_so b start n t (Ok v) Made f h = f v h
made_so b start n t (Err e) Made f h = tt

pub stopped_so : (b : Batch) (start n : ℕ) (t : Tree ℕ) (r : Result Values Stop) (Stopped : Stop → Type 0) → ((e : Stop) → Stopped e → StopsAt b start n t e) → IfErr r Stopped → IfErr r (StopsAt b start n t)
stopped_so b start n t (Ok v) Stopped f h = tt
stopped_so b start n t (Err e) Stopped f h = f e h

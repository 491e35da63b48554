-- Decisions place by place are the comparison of two columns.
use Rattle.std.proofs.Common.{◌≡◌, ℕ, ℤ, ◌<◌, ◌&&◌, ◌||◌, not, Bool, true, false, List, length, cond, refl, sym, subst, ap, ◌∙◌, zero-add, get_or, slice_index_or, Option}
use Rattle.std.specs.declared.cmp.Ordering.{Ordering}
use Rattle.std.specs.declared.cmp.Ordering.TheVariants.{Less, Equal, Greater}
use Rattle.std.specs.Ordering.{int_cmp, bool_cmp, nat_cmp, is_eq}
use Rattle.std.specs.Cmp.Lexicographic.{slice_cmp}
use Rattle.std.proofs.lemmas.List.FromFn.{get_or-map-range_with_len}
use Rattle.arrays.proofs.RangeLists.{map-range-below}
use Rattle.arrays.specs.Item as item
use Rattle.arrays.specs.Prelude.{HasBits, HasTexts, Item, Seen, holds_at, int, is_null, item_at, null, of_slot, order, text, valid_at, valid_in, valid_values}
use Rattle.kernels.specs.Prelude.{compared, lifted, meets, wants}
use Rattle.truths.specs.Truth.{truth_at, truths_of}
use Rattle.kernels.specs.declared.comparison.CmpOp.{CmpOp}
use Rattle.kernels.specs.declared.comparison.wanted.Wanted.{Wanted}
use Rattle.kernels.proofs.ResultLemmas.{AreNumbers}

-- whether two items meet the comparison
abbrev pub met : CmpOp → Item → Item → Item
met op x y = item.boolean (meets op (order x y))

-- an item of a column whose valid slots have values
valid_value : (value : ℕ → Item) (s : Seen) (i : ℕ) → s.items ≡ valid_values value s → i < length s.items →
    item_at s.items i ≡ cond (valid_at s i) (value i) null
valid_value value s i are within =
    ap (λ l. get_or l i null) are
    ∙ get_or-map-range_with_len (λ j. cond (valid_at s j) (value j) null) 0 (length s.items) i i null within (zero-add i)

-- two items, where the slots are valid
two_valid : (op : CmpOp) (v w : Bool) (x y : Item) → is_null x ≡ false → is_null y ≡ false →
    cond (v && w) (met op x y) null ≡ lifted (met op) (cond v x null) (cond w y null)
two_valid op true true x y p q =
    let e : (is_null x || is_null y) ≡ false = ap (λ b. b || is_null y) p ∙ q in
    ap (λ b. cond b null (met op x y)) (sym e)
two_valid op true false x y p q = ap (λ b. cond (b || true) null (met op x null)) (sym p)
two_valid op false w x y p q = refl

-- two items, which may be null
two_items : (op : CmpOp) (x y : Item) → cond (not (is_null x) && not (is_null y)) (met op x y) null ≡ lifted (met op) x y
two_items op x y = by_tests (is_null x) (is_null y)
  where
    by_tests : (p q : Bool) → cond (not p && not q) (met op x y) null ≡ cond (p || q) null (met op x y)
    by_tests true q = refl
    by_tests false true = refl
    by_tests false false = refl

-- what a comparison wants, at each place
module _ (op : CmpOp) (w : Wanted) (is : (o : Ordering) → wants w o ≡ meets op o) (a b : Seen) (lengths : length a.items ≡ length b.items) where
  decided : (both : ℕ → Bool) (o : ℕ → Ordering) → ((i : ℕ) → i < length a.items → truth_at both (λ j. meets op (o j)) i ≡ lifted (met op) (item_at a.items i) (item_at b.items i))
      → truths_of both (λ i. wants w (o i)) (length a.items) ≡ compared op a.items b.items
  decided both o same =
      (λ j. truths_of both (λ i. is (o i) j) (length a.items))
      ∙ map-range-below (truth_at both (λ j. meets op (o j))) (λ i. lifted (met op) (item_at a.items i) (item_at b.items i)) 0 (length a.items)
      (λ i h. subst (λ k. truth_at both (λ j. meets op (o j)) k ≡ lifted (met op) (item_at a.items k) (item_at b.items k)) (sym (zero-add i)) (same i h))

  -- two columns whose valid slots have values
  values-compared : (x y : ℕ → Item) → a.items ≡ valid_values x a → b.items ≡ valid_values y b → ((i : ℕ) → is_null (x i) ≡ false) → ((i : ℕ) → is_null (y i) ≡ false)
      → truths_of (λ i. valid_at a i && valid_at b i) (λ i. wants w (order (x i) (y i))) (length a.items) ≡ compared op a.items b.items
  values-compared x y are_x are_y there_x there_y =
      decided (λ i. valid_at a i && valid_at b i) (λ i. order (x i) (y i)) (λ i h.
      let below : i < length b.items = subst (λ n. i < n) lengths h in
      let e = valid_value x a i are_x h in
      let f = valid_value y b i are_y below in
      two_valid op (valid_at a i) (valid_at b i) (x i) (y i) (there_x i) (there_y i)
      ∙ sym (λ j. lifted (met op) (e j) (f j)))

  -- two columns, item by item
  pub items-compared : (n : ℕ) → n ≡ length a.items → truths_of (λ i. holds_at a i && holds_at b i) (λ i. wants w (order (item_at a.items i) (item_at b.items i))) n ≡ compared op a.items b.items
  items-compared n n_is =
      ap (truths_of (λ i. holds_at a i && holds_at b i) (λ i. wants w (order (item_at a.items i) (item_at b.items i)))) n_is
      ∙ decided (λ i. holds_at a i && holds_at b i) (λ i. order (item_at a.items i) (item_at b.items i)) (λ i h. two_items op (item_at a.items i) (item_at b.items i))

  module _ (v u : Option (List Bool)) (n : ℕ) (v_is : v ≡ a.validity) (u_is : u ≡ b.validity) (n_is : n ≡ length a.items) where
    -- two columns of numbers
    pub numbers-compared : (x y : ℕ → ℤ) → AreNumbers x a → AreNumbers y b → truths_of (λ i. valid_in v i && valid_in u i) (λ i. wants w (int_cmp (x i) (y i))) n ≡ compared op a.items b.items
    numbers-compared x y are_x are_y =
        (λ j. truths_of (λ i. valid_in (v_is j) i && valid_in (u_is j) i) (λ i. wants w (int_cmp (x i) (y i))) (n_is j))
        ∙ decided (λ i. valid_at a i && valid_at b i) (λ i. int_cmp (x i) (y i)) (λ i h.
        let e = are_x i h in
        let f = are_y i (subst (λ m. i < m) lengths h) in
        two_valid op (valid_at a i) (valid_at b i) (int (x i)) (int (y i)) refl refl
        ∙ sym (λ j. lifted (met op) (e j) (f j)))

    -- two columns of truth values
    pub bools-compared : (x y : List Bool) → HasBits x a → HasBits y b
        → truths_of (λ i. valid_in v i && valid_in u i) (λ i. wants w (bool_cmp (slice_index_or x i false) (slice_index_or y i false))) n ≡ compared op a.items b.items
    bools-compared x y has_x has_y =
        (λ j. truths_of (λ i. valid_in (v_is j) i && valid_in (u_is j) i) (λ i. wants w (bool_cmp (slice_index_or x i false) (slice_index_or y i false))) (n_is j))
        ∙ values-compared (λ i. item.boolean (slice_index_or x i false)) (λ i. item.boolean (slice_index_or y i false)) has_x.values has_y.values (λ i. refl) (λ i. refl)

    -- two columns of texts that lie behind one another
    pub texts-compared : (xo x yo y : List ℕ) → HasTexts xo x a → HasTexts yo y b
        → truths_of (λ i. valid_in v i && valid_in u i) (λ i. wants w (slice_cmp nat_cmp (of_slot xo x i) (of_slot yo y i))) n ≡ compared op a.items b.items
    texts-compared xo x yo y has_x has_y =
        (λ j. truths_of (λ i. valid_in (v_is j) i && valid_in (u_is j) i) (λ i. wants w (slice_cmp nat_cmp (of_slot xo x i) (of_slot yo y i))) (n_is j))
        ∙ values-compared (λ i. text (of_slot xo x i)) (λ i. text (of_slot yo y i)) has_x.texts has_y.texts (λ i. refl) (λ i. refl)

-- what is wanted of two equal items
pub wants-equal : (w : Wanted) (o : Ordering) → is_eq o ≡ true → w.equal ≡ wants w o
wants-equal w Less e = cc
wants-equal w Equal e = refl
wants-equal w Greater e = cc

-- what is wanted of two others, where less and greater are wanted alike
pub wants-unequal : (w : Wanted) (o : Ordering) → w.less ≡ w.greater → is_eq o ≡ false → w.less ≡ wants w o
wants-unequal w Less alike e = refl
wants-unequal w Equal alike e = cc
wants-unequal w Greater alike e = alike

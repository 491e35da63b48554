-- Rows that a mask or indices pick.
use Rattle.std.proofs.Common.{◌≡◌, ◌∙◌, ℕ, zero, suc, ◌+◌, ◌<◌, ◌≤◌, ◌&&◌, ◌⊎◌, inl, inr, List, [], ◌∷◌, ◌++◌, length, take, map, filter, zip, position, Bool, true, false, not, cond, Option, None, Some, option_map, ap, sym, refl, arith, subst, get_or, append-nil, zero-add}
use Rattle.std.specs.Prelude.{slice_get, All}
use Rattle.std.specs.List.{range_with_len}
use Rattle.std.specs.Prelude.{◌==◌}
use Rattle.std.proofs.lemmas.Bool.{cases_lt, lt-ltb, le-ltb}
use Rattle.std.proofs.lemmas.List.{map-append, take_all, length-take-le, get_or_past}
use Rattle.std.proofs.lemmas.List.Elements.{All-append, filter-append}
use Rattle.std.proofs.lemmas.List.FromFn.{get_or-map-range_with_len, length-map-range_with_len}
use Rattle.std.proofs.lemmas.List.Sums.{position_or_len_is}
use Rattle.std.proofs.lemmas.Option.{slice_get_within, slice_get-get_or, get_or_from_slice_get}
use Rattle.arrays.specs.Prelude.{HasBits, IntType, Item, Seen, bit_of, is_code, is_int, looked_up, null, same_kind, valid_at, valid_in}
use Rattle.arrays.specs.Kind as kind
use Rattle.arrays.specs.Item as item
use Rattle.arrays.proofs.PartLemmas.{item_slot}
use Rattle.select.specs.Prelude.{AreTrue, IsPick, filter_fault, indices_fault, is_true, kept, outside, picked, picked_at, rows_of_ones, rows_where, take_fault, taken}
use Rattle.select.specs.declared.fault.SelectFault.TheVariants.{IndexOutOfRange, LengthsDiffer, WrongKind}
use Rattle.select.proofs.PickLemmas.{take-one}
use Rattle.select.proofs.OnesLemmas.{rows_where-more, rows_where-nothing}

-- ---- the rows where a mask is true

zip-one : {A B : Type 0} (xs : List A) (ys : List B) (x : A) (y : B) → length xs ≡ length ys → zip (xs ++ x ∷ []) (ys ++ y ∷ []) ≡ zip xs ys ++ (x, y) ∷ []
zip-one [] [] x y h = refl
zip-one [] (b ∷ ys) x y h = cc
zip-one (a ∷ xs) [] x y h = cc
zip-one (a ∷ xs) (b ∷ ys) x y h = ap (λ l. (a, b) ∷ l) (zip-one xs ys x y (omega (arith, h)))

-- the item that a row of the mask keeps, if it does
abbrev kept_one : Item → Item → List Item
kept_one x m = cond (is_true m) (x ∷ []) []

kept_one-is : (x m : Item) (b : Bool) → map {A = Item × Item} (λ p. p.0) (cond b ((x, m) ∷ []) []) ≡ cond b (x ∷ []) []
kept_one-is x m true = refl
kept_one-is x m false = refl

kept-more : (xs ms : List Item) (x m : Item) → length xs ≡ length ms → kept (xs ++ x ∷ []) (ms ++ m ∷ []) ≡ kept xs ms ++ kept_one x m
kept-more xs ms x m h =
    ap (λ l. map (λ p. p.0) (filter (λ p. is_true p.1) l)) (zip-one xs ms x m h)
    ∙ ap (map (λ p. p.0)) (filter-append (λ p. is_true p.1) (zip xs ms) ((x, m) ∷ []))
    ∙ map-append (λ p. p.0) (filter (λ p. is_true p.1) (zip xs ms)) (filter (λ p. is_true p.1) ((x, m) ∷ []))
    ∙ ap (λ l. kept xs ms ++ l) (kept_one-is x m (is_true m))

-- the rows picked of the first i rows of a mask
pub record Filtered (mask : List Item) (i : ℕ) (picks : List (Option ℕ)) : Type 0 where
  pub within : All (IsPick (length mask)) picks
  pub rows : (items : List Item) → length items ≡ length mask → picked items picks ≡ kept (take i items) (take i mask)

pub Filtered-none : (mask : List Item) (picks : List (Option ℕ)) → picks ≡ [] → Filtered mask 0 picks
Filtered-none mask picks none = record {
  within = subst (All (IsPick (length mask))) (sym none) (λ k d below. absurd (omega (arith, below)));
  rows = λ items h. ap (picked items) none;
}

kept-row : (mask items : List Item) (i : ℕ) (m : Item) (b : Bool) → length items ≡ length mask → slice_get mask i ≡ Some m → is_true m ≡ b
    → kept (take (i + 1) items) (take (i + 1) mask) ≡ kept (take i items) (take i mask) ++ cond b (get_or items i null ∷ []) []
kept-row mask items i m b lengths at is =
    let below = slice_get_within mask i m at in
    let there : i < length items = omega (arith, below, lengths) in
    ap (λ xs. kept xs (take (i + 1) mask)) (take-one items i (get_or items i null) (slice_get-get_or items i null there))
    ∙ ap (kept (take i items ++ get_or items i null ∷ [])) (take-one mask i m at)
    ∙ kept-more (take i items) (take i mask) (get_or items i null) m (length-take-le i items (omega (arith, there)) ∙ sym (length-take-le i mask (omega (arith, below))))
    ∙ ap (λ b. kept (take i items) (take i mask) ++ cond b (get_or items i null ∷ []) []) is

pub Filtered-true : (mask : List Item) (i : ℕ) (m : Item) (old new : List (Option ℕ)) → Filtered mask i old → slice_get mask i ≡ Some m → is_true m ≡ true
    → new ≡ old ++ Some i ∷ [] → Filtered mask (i + 1) new
Filtered-true mask i m old new is at here more = record {
  within = subst (All (IsPick (length mask))) (sym more) (All-append (IsPick (length mask)) old (Some i ∷ []) is.within (one (slice_get_within mask i m at)));
  rows =
      λ items h.
      ap (picked items) more
      ∙ map-append (picked_at items) old (Some i ∷ [])
      ∙ ap (λ l. l ++ get_or items i null ∷ []) (is.rows items h)
      ∙ sym (kept-row mask items i m true h at here);
}
  where
    one : i < length mask → All (IsPick (length mask)) (Some i ∷ [])
    one h zero d below = h
    one h (suc k) d below = absurd (omega (arith, below))

pub Filtered-false : (mask : List Item) (i : ℕ) (m : Item) (picks : List (Option ℕ)) → Filtered mask i picks → slice_get mask i ≡ Some m → is_true m ≡ false → Filtered mask (i + 1) picks
Filtered-false mask i m picks is at isnt = record {
  within = is.within;
  rows = λ items h. is.rows items h ∙ sym (append-nil (kept (take i items) (take i mask))) ∙ sym (kept-row mask items i m false h at isnt);
}

pub Filtered-all : (mask items : List Item) (i : ℕ) (picks : List (Option ℕ)) → Filtered mask i picks → length mask ≤ i → length items ≡ length mask → picked items picks ≡ kept items mask
Filtered-all mask items i picks is past h =
    is.rows items h ∙ ap (λ xs. kept xs (take i mask)) (take_all i items (omega (arith, past, h))) ∙ ap (kept items) (take_all i mask past)

-- past the end of the mask there is no row
Filtered-past : (mask : List Item) (i : ℕ) (picks : List (Option ℕ)) → Filtered mask i picks → length mask ≤ i → Filtered mask (i + 1) picks
Filtered-past mask i picks is past = record {
  within = is.within;
  rows = λ items h. Filtered-all mask items i picks is past h ∙ sym (ap (λ xs. kept xs (take (i + 1) mask)) (take_all (i + 1) items (omega (arith, past, h))) ∙ ap (kept items) (take_all (i + 1) mask (omega (arith, past))));
}

Filtered-bit : (mask : List Item) (i : ℕ) (b : Bool) (old new : List (Option ℕ)) → Filtered mask i old → b ≡ is_true (get_or mask i null) → new ≡ old ++ cond b (Some i ∷ []) [] → Filtered mask (i + 1) new
Filtered-bit mask i b old new is bit more =
    elim (cases_lt i (length mask)) [
      | inl below ↦ there b bit more (slice_get-get_or mask i null below)
      | inr past ↦ (
          let none : b ≡ false = bit ∙ ap is_true (get_or_past mask i null past) in
          subst (Filtered mask (i + 1)) (sym (more ∙ ap (λ b. old ++ cond b (Some i ∷ []) []) none ∙ append-nil old)) (Filtered-past mask i old is past))
    ]
  where
    there : (b : Bool) → b ≡ is_true (get_or mask i null) → new ≡ old ++ cond b (Some i ∷ []) [] → slice_get mask i ≡ Some (get_or mask i null) → Filtered mask (i + 1) new
    there true bit more at = Filtered-true mask i (get_or mask i null) old new is at (sym bit) more
    there false bit more at = subst (Filtered mask (i + 1)) (sym (more ∙ append-nil old)) (Filtered-false mask i (get_or mask i null) old is at (sym bit))

-- the rows of the first bits
Filtered-bits : (mask : List Item) (bits : List Bool) → AreTrue bits mask → (n : ℕ) → Filtered mask n (rows_where (bit_of bits) 0 n)
Filtered-bits mask bits true_bits zero = Filtered-none mask (rows_where (bit_of bits) 0 0) (rows_where-nothing (bit_of bits) 0)
Filtered-bits mask bits true_bits (suc n) =
    let one : n + 1 ≡ suc n = omega arith in
    subst (λ k. Filtered mask k (rows_where (bit_of bits) 0 k)) one
    (Filtered-bit mask n (bit_of bits n) (rows_where (bit_of bits) 0 n) (rows_where (bit_of bits) 0 (n + 1)) (Filtered-bits mask bits true_bits n) (true_bits.each n) (rows_where-more (bit_of bits) n))

-- the rows whose bit is 1 are those that the mask keeps
pub ones-kept : (mask items : List Item) (bits : List Bool) → AreTrue bits mask → length items ≡ length mask → picked items (rows_of_ones bits) ≡ kept items mask
ones-kept mask items bits true_bits same = Filtered-all mask items (length bits) (rows_of_ones bits) (Filtered-bits mask bits true_bits (length bits)) (omega (arith, true_bits.size)) same

pub ones-within : (mask : List Item) (bits : List Bool) → AreTrue bits mask → All (IsPick (length mask)) (rows_of_ones bits)
ones-within mask bits true_bits = (Filtered-bits mask bits true_bits (length bits)).within

-- a row of the mask is true where its bit and its validity are
pub is_true-bit : (bits : List Bool) (s : Seen) (i : ℕ) (b : Bool) → HasBits bits s → slice_get bits i ≡ Some b → i < length s.items
    → (m : Item) × (slice_get s.items i ≡ Some m) × (is_true m ≡ (b && valid_at s i))
is_true-bit bits s i b has at below =
    let bit = get_or_from_slice_get bits i b false at in (
      cond (valid_at s i) (item.boolean (get_or bits i false)) null,
      item_slot (λ j. item.boolean (get_or bits j false)) s i has.values below,
      shown (valid_at s i) (get_or bits i false) b bit,
    )
  where
    shown : (v x y : Bool) → x ≡ y → is_true (cond v (item.boolean x) null) ≡ (y && v)
    shown true true y h = cc
    shown true false y h = cc
    shown false x true h = refl
    shown false x false h = refl

-- the same of a bit that may lie past the end
pub is_true-word : (bits : List Bool) (validity : Option (List Bool)) (s : Seen) (i : ℕ) (b : Bool) → HasBits bits s → validity ≡ s.validity → b ≡ (bit_of bits i && valid_in validity i)
    → b ≡ is_true (get_or s.items i null)
is_true-word bits validity s i b has same is =
    elim (cases_lt i (length s.items)) [
      | inl below ↦ (
          let row = is_true-bit bits s i (get_or bits i false) has (slice_get-get_or bits i false (omega (arith, below, has.size))) below in
          is ∙ ap (λ v. bit_of bits i && valid_in v i) same ∙ sym row.2 ∙ ap is_true (sym (get_or_from_slice_get s.items i row.0 null row.1)))
      | inr past ↦ (
          is
          ∙ ap (λ x. x && valid_in validity i) (get_or_past bits i false (omega (arith, past, has.size)))
          ∙ sym (ap is_true (get_or_past s.items i null past)))
    ]

valid-always : (b : Bool) → b ≡ (b && true)
valid-always true = refl
valid-always false = refl

-- the bits of a mask without nulls
pub AreTrue-valid : (bits : List Bool) (s : Seen) → HasBits bits s → s.validity ≡ None → AreTrue bits s.items
AreTrue-valid bits s has none = record {
  size = has.size;
  each = λ i. is_true-word bits None s i (bit_of bits i) has (sym none) (valid-always (bit_of bits i));
}

-- those of one with a validity, of which each bit is looked at with its own
pub AreTrue-both : (bits valid both : List Bool) (s : Seen) → HasBits bits s → Some valid ≡ s.validity → both ≡ map (λ i. bit_of bits i && bit_of valid i) (range_with_len 0 (length bits)) → AreTrue both s.items
AreTrue-both bits valid both s has same is = record {
  size = ap length is ∙ length-map-range_with_len (λ i. bit_of bits i && bit_of valid i) 0 (length bits) ∙ has.size;
  each = λ i. is_true-word bits (Some valid) s i (bit_of both i) has same (at_place i);
}
  where
    f : ℕ → Bool
    f i = bit_of bits i && bit_of valid i

    at_place : (i : ℕ) → bit_of both i ≡ (bit_of bits i && bit_of valid i)
    at_place i =
        ap (λ l. bit_of l i) is
        ∙ elim (cases_lt i (length bits)) [
          | inl below ↦ get_or-map-range_with_len f 0 (length bits) i i false below (zero-add i)
          | inr past ↦ (
              get_or_past (map f (range_with_len 0 (length bits))) i false (omega (arith, past, length-map-range_with_len f 0 (length bits)))
              ∙ sym (ap (λ b. b && bit_of valid i) (get_or_past bits i false past)))
        ]

-- ---- the rows that indices name

first_is : {A : Type 0} (p : A → Bool) (xs : List A) (i : ℕ) (d : A) → i < length xs → ((k : ℕ) → k < i → p (get_or xs k d) ≡ false) → p (get_or xs i d) ≡ true → position p xs ≡ Some i
first_is p xs i d below before here =
    let is = position_or_len_is p xs i d (omega (arith, below)) before (λ h. here) in
    ap (λ n. cond (Rattle.std.specs.Prelude.nat_lt n (length xs)) (Some n) None) is ∙ ap (λ b. cond b (Some i) None) (lt-ltb i (length xs) below)

none_is : {A : Type 0} (p : A → Bool) (xs : List A) (d : A) → ((k : ℕ) → k < length xs → p (get_or xs k d) ≡ false) → position p xs ≡ None
none_is p xs d before =
    let is = position_or_len_is p xs (length xs) d (omega arith) before (λ h. absurd (omega (arith, h))) in
    ap (λ n. cond (Rattle.std.specs.Prelude.nat_lt n (length xs)) (Some n) None) is ∙ ap (λ b. cond b (Some (length xs)) None) (le-ltb (length xs) (length xs) (omega arith))

-- the rows picked of the first i indices
pub record Taken (n : ℕ) (indices : List Item) (i : ℕ) (picks : List (Option ℕ)) : Type 0 where
  pub within : All (IsPick n) picks
  pub rows : (items : List Item) → picked items picks ≡ taken items (take i indices)
  pub inside : (k : ℕ) → k < i → is_code n (get_or indices k null) ≡ true
  pub room : length picks ≡ i

pub Taken-none : (n : ℕ) (indices : List Item) (picks : List (Option ℕ)) → picks ≡ [] → Taken n indices 0 picks
Taken-none n indices picks none = record {
  within = subst (All (IsPick n)) (sym none) (λ k d below. absurd (omega (arith, below)));
  rows = λ items. ap (picked items) none;
  inside = λ k h. absurd (omega (arith, h));
  room = ap length none;
}

pub Taken-more : (n : ℕ) (indices : List Item) (i : ℕ) (x : Item) (pick : Option ℕ) (old new : List (Option ℕ)) → Taken n indices i old → slice_get indices i ≡ Some x
    → is_code n x ≡ true → ((items : List Item) → picked_at items pick ≡ looked_up items x) → IsPick n pick → new ≡ old ++ pick ∷ [] → Taken n indices (i + 1) new
Taken-more n indices i x pick old new is at code row within more = record {
  within = subst (All (IsPick n)) (sym more) (All-append (IsPick n) old (pick ∷ []) is.within one);
  rows =
      λ items.
      ap (picked items) more
      ∙ map-append (picked_at items) old (pick ∷ [])
      ∙ ap (λ l. l ++ picked_at items pick ∷ []) (is.rows items)
      ∙ ap (λ y. taken items (take i indices) ++ y ∷ []) (row items)
      ∙ sym (map-append (looked_up items) (take i indices) (x ∷ []))
      ∙ ap (taken items) (sym (take-one indices i x at));
  inside = λ k h. here k h (cases_lt k i);
  room = ap length more ∙ Rattle.std.proofs.Common.length-append old (pick ∷ []) ∙ ap (λ m. m + 1) is.room;
}
  where
    one : All (IsPick n) (pick ∷ [])
    one zero d below = within
    one (suc k) d below = absurd (omega (arith, below))

    here : (k : ℕ) → k < i + 1 → (k < i) ⊎ (i ≤ k) → is_code n (get_or indices k null) ≡ true
    here k below (inl h) = is.inside k h
    here k below (inr h) = let same : k ≡ i = omega (arith, below, h) in ap (λ j. is_code n (get_or indices j null)) same ∙ ap (is_code n) (get_or_from_slice_get indices i x null at) ∙ code

pub Taken-all : (n : ℕ) (indices items : List Item) (i : ℕ) (picks : List (Option ℕ)) → Taken n indices i picks → length indices ≤ i → picked items picks ≡ taken items indices
Taken-all n indices items i picks is past = is.rows items ∙ ap (taken items) (take_all i indices past)

pub Taken-inside : (n : ℕ) (indices : List Item) (i : ℕ) (picks : List (Option ℕ)) → Taken n indices i picks → length indices ≤ i → outside n indices ≡ None
Taken-inside n indices i picks is past = none_is (λ x. not (is_code n x)) indices null (λ k h. ap not (is.inside k (omega (arith, h, past))))

pub Taken-outside : (n : ℕ) (indices : List Item) (i : ℕ) (x : Item) (picks : List (Option ℕ)) → Taken n indices i picks → slice_get indices i ≡ Some x → is_code n x ≡ false → outside n indices ≡ Some i
Taken-outside n indices i x picks is at out =
    first_is (λ x. not (is_code n x)) indices i null (slice_get_within indices i x at) (λ k h. ap not (is.inside k h))
    (ap (λ y. not (is_code n y)) (get_or_from_slice_get indices i x null at) ∙ ap not out)

-- ---- what is refused

pub indices_fault-int : (s : Seen) (t : IntType) → s.kind ≡ kind.int t → indices_fault s ≡ None
indices_fault-int s t is = ap (λ k. cond (is_int k) None (Some WrongKind)) is

pub take_fault-int : (s indices : Seen) (t : IntType) → indices.kind ≡ kind.int t → take_fault s indices ≡ option_map (λ row. IndexOutOfRange row) (outside (length s.items) indices.items)
take_fault-int s indices t is = ap (λ k. cond (is_int k) (option_map (λ row. IndexOutOfRange row) (outside (length s.items) indices.items)) (Some WrongKind)) is

same_number : (n : ℕ) → (n == n) ≡ true
same_number n = grind (arith)

pub filter_fault-none : (s mask : Seen) → mask.kind ≡ kind.boolean → length mask.items ≡ length s.items → filter_fault s mask ≡ None
filter_fault-none s mask is same =
    ap (λ k. cond (same_kind k kind.boolean) (cond (length mask.items == length s.items) None (Some LengthsDiffer)) (Some WrongKind)) is
    ∙ ap (λ n. cond (n == length s.items) None (Some LengthsDiffer)) same
    ∙ ap (λ b. cond b None (Some LengthsDiffer)) (same_number (length s.items))

-- A column of numbers grows by one slot or by many.
use Rattle.std.proofs.Common.{◌≡◌, ◌∙◌, ℕ, ◌+◌, ◌*◌, ◌<◌, ◌≤◌, ℤ, List, [], ◌∷◌, ◌++◌, Bool, false, map, length, get_or, cond, ap, sym, refl, arith, subst, length-append, zero-add, Option, Result, Ok, Err, OnOk, OnErr, take}
use Rattle.std.specs.List.{range_with_len}
use Rattle.std.proofs.lemmas.List.FromFn.{get_or-map-range_with_len, map-range_with_len_more, length-map-range_with_len}
use Rattle.std.proofs.lemmas.List.{get_or_append_left, get_or-append-add}
use Rattle.std.proofs.lemmas.Nat.{row_fits}
use Rattle.std.proofs.Math.Seq.{get_or-append_seam, take-append_seam}
use Rattle.types.specs.declared.int_type.IntType.{IntType}
use Rattle.types.specs.Kind as kind
use Rattle.types.specs.Prelude.{IsOfType, bytes_of, bytes_of_number, most_slots, number_at}
use Rattle.layout.specs.Prelude.{Item, Seen, int, null, valid_at, valid_in}
use Rattle.arrays.specs.Prelude.{Column, HasNumbers, IsBufferOf, IsBuilt, built, kept, numbers_where, show_numbers, shown}
use Rattle.arrays.specs.Builder.{item_at}
use Rattle.layout.proofs.RangeLists.{map-range-below}
use Rattle.arrays.proofs.ListLemmas.{map-range-joined}
use Rattle.types.proofs.EncodingLemmas.{length-bytes_of_number, number_at-append-front, number_at-append-end, number_at-append-past}
use Rattle.arrays.proofs.FinishedLemmas.{slots_shown}

-- one row more
pub more_rows : (n w : ℕ) → n * w + w ≡ (n + 1) * w
more_rows n w = omega arith

pub IsBuilt-push : (t : IntType) (values : List ℕ) (valid : List Bool) (z : ℤ) (b : Bool) → IsBuilt t values valid → length valid < most_slots
    → IsBuilt t (values ++ bytes_of_number t z) (valid ++ b ∷ [])
IsBuilt-push t values valid z b is room = record {
  whole =
      length-append values (bytes_of_number t z)
      ∙ ap (λ m. m + length (bytes_of_number t z)) is.whole
      ∙ ap (λ m. length valid * bytes_of t.bits + m) (length-bytes_of_number t z)
      ∙ more_rows (length valid) (bytes_of t.bits)
      ∙ ap (λ m. m * bytes_of t.bits) (sym (length-append valid (b ∷ [])));
  short = omega (arith, length-append valid (b ∷ []));
}

pub built-push : (t : IntType) (values : List ℕ) (valid : List Bool) (z : ℤ) (b : Bool) → IsBuilt t values valid → IsOfType t z
    → built t (values ++ bytes_of_number t z) (valid ++ b ∷ []) ≡ built t values valid ++ (cond b (int z) null) ∷ []
unfolding built
built-push t values valid z b is of_type =
    let n = length valid in
    let w = bytes_of t.bits in
    let values' = values ++ bytes_of_number t z in
    let valid' = valid ++ b ∷ [] in
    let at = item_at t values' valid' in
    let front : (i : ℕ) → i < n → at (0 + i) ≡ item_at t values valid (0 + i) =
    λ i below.
    let within : i * w + w ≤ length values = subst (λ m. i * w + w ≤ m) (sym is.whole) (row_fits i w n w below (omega arith)) in
    let same_bit : get_or valid' i false ≡ get_or valid i false = get_or_append_left valid (b ∷ []) false i below in
    let same : at i ≡ item_at t values valid i =
    ap (λ v. cond v (int (number_at t values' i)) null) same_bit
    ∙ ap (λ z. cond (get_or valid i false) (int z) null) (number_at-append-front t values (bytes_of_number t z) i within) in
    ap at (zero-add i) ∙ same ∙ ap (item_at t values valid) (sym (zero-add i)) in
    let last : at n ≡ cond b (int z) null =
    ap (λ v. cond v (int (number_at t values' n)) null) (get_or-append_seam valid b [] false)
    ∙ ap (λ y. cond b (int y) null) (number_at-append-end t values z n (sym is.whole) of_type) in
    ap (λ m. map at (range_with_len 0 m)) (length-append valid (b ∷ []))
    ∙ map-range_with_len_more at 0 n n (zero-add n)
    ∙ ap (λ xs. xs ++ at n ∷ []) (map-range-below at (item_at t values valid) 0 n front)
    ∙ ap (λ x. map (item_at t values valid) (range_with_len 0 n) ++ x ∷ []) last

pub length-built : (t : IntType) (values : List ℕ) (valid : List Bool) → length (built t values valid) ≡ length valid
unfolding built
length-built t values valid = length-map-range_with_len (item_at t values valid) 0 (length valid)

-- the builder after a slot more
pub record Added (t : IntType) (values : List ℕ) (valid : List Bool) (old : Column) (x : Item) : Type 0 where
  pub built_still : IsBuilt t values valid
  pub one_more : built t values valid ≡ old.items ++ x ∷ []

pub added : (t : IntType) (values bytes : List ℕ) (valid flags : List Bool) (z : ℤ) (b : Bool) (old : Column)
    → ◌≡◌ {A = Column} (record { ty = t; items = built t values valid }) old → IsBuilt t values valid → IsOfType old.ty z → length old.items < most_slots
    → bytes ≡ values ++ bytes_of_number t z → flags ≡ valid ++ b ∷ [] → Added t bytes flags old (cond b (int z) null)
added t values bytes valid flags z b old is whole of_type room bytes_are flags_are =
    let of_t = subst (λ s. IsOfType s z) (sym (ap (λ (c : Column). c.ty) is)) of_type in
    let few : length valid < most_slots = omega (arith, length-built t values valid, ap (λ (c : Column). length c.items) is) in
    let still = IsBuilt-push t values valid z b whole few in
    record {
      built_still = subst (λ v. IsBuilt t v flags) (sym bytes_are) (subst (λ f. IsBuilt t (values ++ bytes_of_number t z) f) (sym flags_are) still);
      one_more =
          ap (λ v. built t v flags) bytes_are
          ∙ ap (built t (values ++ bytes_of_number t z)) flags_are
          ∙ built-push t values valid z b whole of_t
          ∙ ap (λ (c : Column). c.items ++ cond b (int z) null ∷ []) is;
    }

-- the builder after a try to add a slot, which may have failed
pub record Tried {E : Type 0} (r : Result (Unit {0}) E) (t : IntType) (values : List ℕ) (valid : List Bool) (old : Column) (x : Item) : Type 0 where
  pub built_still : IsBuilt t values valid
  pub one_more : OnOk r (built t values valid ≡ old.items ++ x ∷ [])

pub tried : {E : Type 0} (r : Result (Unit {0}) E) (t s : IntType) (values longer bytes : List ℕ) (valid flags : List Bool) (n : ℕ) (y z : ℤ) (b : Bool) (old : Column)
    → ◌≡◌ {A = Column} (record { ty = t; items = built t values valid }) old → IsBuilt t values valid → IsOfType old.ty z → length old.items < most_slots → s ≡ old.ty → y ≡ z
    → longer ≡ values ++ bytes_of_number s y → n ≡ length values → OnOk r (bytes ≡ longer) → OnOk r (flags ≡ valid ++ b ∷ []) → OnErr r (bytes ≡ take n longer) → OnErr r (flags ≡ valid)
    → Tried r t bytes flags old (cond b (int z) null)
tried (Ok u) t s values longer bytes valid flags n y z b old is whole of_type room type_is same grows before bytes_are flags_are bytes_were flags_were =
    let type_same : s ≡ t = type_is ∙ sym (ap (λ (c : Column). c.ty) is) in
    let grown = bytes_are ∙ grows ∙ ap (λ s. values ++ bytes_of_number s y) type_same ∙ ap (λ y. values ++ bytes_of_number t y) same in
    let all = added t values bytes valid flags z b old is whole of_type room grown flags_are in
    record { built_still = all.built_still; one_more = all.one_more }
tried (Err e) t s values longer bytes valid flags n y z b old is whole of_type room type_is same grows before bytes_are flags_are bytes_were flags_were =
    let back : bytes ≡ values =
    bytes_were ∙ ap (take n) grows ∙ ap (λ n. take n (values ++ bytes_of_number s y)) before ∙ take-append_seam values (bytes_of_number s y) in
    record { built_still = subst (λ v. IsBuilt t v flags) (sym back) (subst (IsBuilt t values) (sym flags_were) whole); one_more = tt }

-- ---- many slots at once

pub more_slots : (n m w a b : ℕ) → a ≡ n * w → b ≡ m * w → a + b ≡ (n + m) * w
more_slots n m w a b at first = omega arith

pub IsBuilt-joined : (t : IntType) (values numbers : List ℕ) (valid more : List Bool) (m : ℕ) → IsBuilt t values valid → length numbers ≡ m * bytes_of t.bits → length more ≡ m
    → length valid + m ≤ most_slots → IsBuilt t (values ++ numbers) (valid ++ more)
IsBuilt-joined t values numbers valid more m is size count room =
    let longer : length (valid ++ more) ≡ length valid + m = length-append valid more ∙ ap (λ k. length valid + k) count in
    record {
      whole =
          length-append values numbers
          ∙ more_slots (length valid) m (bytes_of t.bits) (length values) (length numbers) is.whole size
          ∙ ap (λ k. k * bytes_of t.bits) (sym longer);
      short = omega arith;
    }

pub built-joined : (t : IntType) (values numbers : List ℕ) (valid : List Bool) (validity : Option (List Bool)) (m : ℕ) → IsBuilt t values valid
    → built t (values ++ numbers) (valid ++ map (valid_in validity) (range_with_len 0 m)) ≡ built t values valid ++ numbers_where validity t numbers m
unfolding built numbers_where
built-joined t values numbers valid validity m is =
    let n = length valid in
    let w = bytes_of t.bits in
    let more = map (valid_in validity) (range_with_len 0 m) in
    let values' = values ++ numbers in
    let valid' = valid ++ more in
    let longer : length valid' ≡ n + m = length-append valid more ∙ ap (λ k. n + k) (length-map-range_with_len (valid_in validity) 0 m) in
    let front : (i : ℕ) → i < n → item_at t values' valid' i ≡ item_at t values valid i =
    λ i below.
    let within : i * w + w ≤ length values = subst (λ m. i * w + w ≤ m) (sym is.whole) (row_fits i w n w below (omega arith)) in
    ap (λ v. cond v (int (number_at t values' i)) null) (get_or_append_left valid more false i below)
    ∙ ap (λ z. cond (get_or valid i false) (int z) null) (number_at-append-front t values numbers i within) in
    let past : (j : ℕ) → j < m → item_at t values' valid' (n + j) ≡ cond (valid_in validity j) (int (number_at t numbers j)) null =
    λ j below.
    ap (λ v. cond v (int (number_at t values' (n + j))) null) (get_or-append-add valid more j false ∙ get_or-map-range_with_len (valid_in validity) 0 m j j false below (zero-add j))
    ∙ ap (λ z. cond (valid_in validity j) (int z) null) (number_at-append-past t values numbers n j (sym is.whole)) in
    ap (λ k. map (item_at t values' valid') (range_with_len 0 k)) longer
    ∙ map-range-joined (item_at t values' valid') (item_at t values valid) (λ j. cond (valid_in validity j) (int (number_at t numbers j)) null) n m front past

-- the builder after the slots
pub record Extended (t : IntType) (values : List ℕ) (valid : List Bool) (old : Column) (validity : Option (List Bool)) (numbers : List ℕ) (m : ℕ) : Type 0 where
  pub built_still : IsBuilt t values valid
  pub many_more : built t values valid ≡ old.items ++ numbers_where validity old.ty numbers m

pub extended : (t : IntType) (values numbers bytes : List ℕ) (valid flags : List Bool) (validity : Option (List Bool)) (m : ℕ) (old : Column)
    → ◌≡◌ {A = Column} (record { ty = t; items = built t values valid }) old → IsBuilt t values valid → length numbers ≡ m * bytes_of old.ty.bits → length old.items + m ≤ most_slots
    → bytes ≡ values ++ numbers → flags ≡ valid ++ map (valid_in validity) (range_with_len 0 m) → Extended t bytes flags old validity numbers m
extended t values numbers bytes valid flags validity m old is whole size room bytes_are flags_are =
    let more = map (valid_in validity) (range_with_len 0 m) in
    let few : length valid + m ≤ most_slots = omega (arith, length-built t values valid, ap (λ (c : Column). length c.items) is) in
    let of_type = size ∙ ap (λ (c : Column). m * bytes_of c.ty.bits) (sym is) in
    let still = IsBuilt-joined t values numbers valid more m whole of_type (length-map-range_with_len (valid_in validity) 0 m) few in
    record {
      built_still = subst (λ v. IsBuilt t v flags) (sym bytes_are) (subst (IsBuilt t (values ++ numbers)) (sym flags_are) still);
      many_more =
          ap (λ v. built t v flags) bytes_are
          ∙ ap (built t (values ++ numbers)) flags_are
          ∙ built-joined t values numbers valid validity m whole
          ∙ ap (λ (c : Column). c.items ++ numbers_where validity c.ty numbers m) is;
    }

-- the items of a column are its numbers where they are valid
pub numbers_where-items : (t : IntType) (numbers : List ℕ) (s : Seen) (validity : Option (List Bool)) (n : ℕ) → HasNumbers t numbers s → validity ≡ s.validity → n ≡ length s.items
    → numbers_where validity t numbers n ≡ s.items
unfolding numbers_where
numbers_where-items t numbers s validity n has is size =
    ap (λ v. map (λ j. cond (valid_in v j) (int (number_at t numbers j)) null) (range_with_len 0 n)) is
    ∙ ap (λ m. map (λ j. cond (valid_at s j) (int (number_at t numbers j)) null) (range_with_len 0 m)) size
    ∙ sym has.numbers

-- ---- the finished column

pub numbers-shown : (t : IntType) (n : ℕ) (values bytes : List ℕ) (valid : List Bool) (validity : Option (List Bool)) (buffer : Option (List ℕ)) → n ≡ length valid → bytes ≡ values
    → validity ≡ kept valid → IsBufferOf buffer validity → show_numbers t n buffer bytes ≡ shown (kind.int t) (built t values valid)
unfolding built
numbers-shown t n values bytes valid validity buffer size same is holds =
    slots_shown (kind.int t) (λ j. int (number_at t values j)) (λ j. int (number_at t bytes j)) n valid validity buffer size is holds (λ j. refl)
    (λ j below. ap (λ b. int (number_at t b j)) same)

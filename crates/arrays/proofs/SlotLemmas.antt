-- The slots of a view.
use Rattle.std.proofs.Common.{◌≡◌, ◌∙◌, ℕ, ◌+◌, ◌-◌, ◌*◌, ◌<◌, ◌≤◌, ℤ, List, [], ◌∷◌, map, Bool, true, false, not, length, take, cond, Option, Some, None, option_map, ap, sym, refl, subst, arith, count_by, zero-add, ltb-false, slice_get, get_or}
use Rattle.std.specs.List.{range_with_len}
use Rattle.std.proofs.lemmas.List.FromFn.{get_or-map-range_with_len, take-map-range_with_len}
use Rattle.std.proofs.lemmas.List.Sums.{sum_by-cons}
use Rattle.std.proofs.lemmas.Nat.{row_fits, mul-le}
use Rattle.std.proofs.lemmas.Option.{slice_get-get_or}
use Rattle.std.specs.Arc.{arc_value}
use Rattle.colbits.specs.Prelude.{bits, slice}
use Rattle.colbits.proofs.BitLemmas.{get_or-bits, slice-bits, drop-map-range, map-range-same}
use Rattle.types.specs.declared.int_type.IntType.{IntType}
use Rattle.layout.specs.Prelude.{Buffers, Item, Reading, Seen, buffer_at, bytes_at, bytes_for, checked_texts, child_items, column, inner_of, int, is_valid, is_valid_in, is_validity_short, null, nulls_in, part, read_parts, reading, valid_at, valid_in, validity_of, value_at}
use Rattle.types.specs.Kind as kind
use Rattle.types.specs.Prelude.{Kind, bytes_of, number_at}
use Rattle.arrays.specs.Prelude.{HasNumbers, is_recodable, is_text, item_of, items_where, read_view, show_view, valid_values, view_kind}
use Rattle.arrays.specs.declared.view.View.TheInside.{Inside}
use Rattle.layout.proofs.FirstFaultLemmas.{IsWhole, own_fault-none}
use Rattle.layout.proofs.LawfulLemmas.{first-parts}
use Rattle.layout.proofs.RangeLists.{map-range-below}
use Rattle.layout.proofs.OffsetParts.{number_at-slice}
use Rattle.layout.proofs.SeenLemmas.{length-slice, length-items}

-- where no fault stands, each test has passed
pub whole : (k : Kind) (n : ℕ) (stated : Option ℕ) (buffers : Buffers) (children : List Reading) (dictionary : Option Reading)
    → (read_parts k n stated buffers children dictionary).fault ≡ None → IsWhole k n stated buffers (map inner_of children) (option_map inner_of dictionary)
unfolding read_parts
whole k n stated buffers children dictionary h =
    own_fault-none k n stated buffers (map inner_of children) (option_map inner_of dictionary) (first-parts _ _ h).0

-- ---- validity

pub seen-validity : (k : Kind) (n : ℕ) (stated : Option ℕ) (buffers : Buffers) (children : List Reading) (dictionary : Option Reading)
    → (read_parts k n stated buffers children dictionary).seen.validity ≡ validity_of n buffers
unfolding read_parts
seen-validity (kind.int t) n stated buffers children dictionary = refl
seen-validity kind.boolean n stated buffers children dictionary = refl
seen-validity (kind.texts w) n stated buffers children dictionary = refl
seen-validity (kind.lists w k) n stated buffers children dictionary = refl
seen-validity kind.dict n stated buffers children dictionary = refl

-- a bitmap of a lawful array has a bit for each slot
pub bits_enough : (n : ℕ) (bytes : List ℕ) (bitmap : Option (List ℕ)) → bitmap ≡ Some bytes → is_validity_short n bitmap ≡ false → n ≤ 8 * length bytes
bits_enough n bytes bitmap is h =
    let long = ltb-false (length bytes) (bytes_for n) (subst (λ b. is_validity_short n b ≡ false) is h) in
    omega (arith, long)

-- the validity of a part, from the bitmap
pub validity-part : (start len total : ℕ) (bitmap : Option (List ℕ)) → start + len ≤ total
    → option_map (λ v. slice v start len) (option_map (λ bytes. bits bytes 0 total) bitmap) ≡ option_map (λ bytes. bits bytes start len) bitmap
validity-part start len total None h = refl
validity-part start len total (Some bytes) h = ap (λ v. Some v) (slice-bits bytes 0 total start len h ∙ ap (λ s. bits bytes s len) (zero-add start))

-- a slot of a part is valid where its bit is 1
pub valid-part : (start len j : ℕ) (bitmap : Option (List ℕ)) → j < len → valid_in (option_map (λ bytes. bits bytes start len) bitmap) j ≡ is_valid_in bitmap (start + j)
valid-part start len j None h = refl
valid-part start len j (Some bytes) h = get_or-bits bytes start len j false h

-- ---- numbers

-- a part of a column, place by place
pub slice-column : (k : Kind) (n : ℕ) (buffers : Buffers) (child entries : List Item) (start len : ℕ) → start + len ≤ n
    → slice (column k n buffers child entries) start len ≡ map (λ j. cond (is_valid buffers (start + j)) (value_at k buffers child entries (start + j)) null) (range_with_len 0 len)
unfolding column
slice-column k n buffers child entries start len h =
    let f : ℕ → Item = λ j. cond (is_valid buffers j) (value_at k buffers child entries j) null in
    ap (take len) (drop-map-range f 0 n start (omega arith))
    ∙ take-map-range_with_len f (0 + start) (n - start) len (omega arith)
    ∙ map-range-same f (λ j. f (start + j)) (0 + start) 0 len (λ i. ap f (omega arith))

seen-numbers : (t : IntType) (n : ℕ) (stated : Option ℕ) (buffers : Buffers) (children : List Reading) (dictionary : Option Reading)
    → (read_parts (kind.int t) n stated buffers children dictionary).seen.items ≡ column (kind.int t) n buffers (child_items children) []
unfolding read_parts
seen-numbers t n stated buffers children dictionary = refl

-- the bytes of a part's numbers are there
pub enough_numbers : (t : IntType) (n : ℕ) (buffers : Buffers) (children : List Reading) (dictionary : Option Reading) (start len : ℕ)
    → (read_parts (kind.int t) n None buffers children dictionary).fault ≡ None → start + len ≤ n → (start + len) * bytes_of t.bits ≤ length (bytes_at buffers 1)
enough_numbers t n buffers children dictionary start len lawful within =
    let long = ltb-false (length (bytes_at buffers 1)) (n * bytes_of t.bits) (whole (kind.int t) n None buffers children dictionary lawful).data_enough in
    omega (arith, long, mul-le (start + len) (bytes_of t.bits) n (bytes_of t.bits) within (omega arith))

sum_places : (s l w : ℕ) → (s + l) * w ≡ s * w + l * w
sum_places s l w = omega arith

-- The numbers of a part of a lawful integer array.
pub HasNumbers-part : (t : IntType) (n : ℕ) (buffers : Buffers) (children : List Reading) (dictionary : Option Reading) (start len : ℕ)
    → (read_parts (kind.int t) n None buffers children dictionary).fault ≡ None → start + len ≤ n
    → HasNumbers t (slice (bytes_at buffers 1) (start * bytes_of t.bits) (len * bytes_of t.bits)) (part start len (read_parts (kind.int t) n None buffers children dictionary).seen)
HasNumbers-part t n buffers children dictionary start len lawful within =
    let s = part start len (read_parts (kind.int t) n None buffers children dictionary).seen in
    let w = bytes_of t.bits in
    let bytes = bytes_at buffers 1 in
    let numbers = slice bytes (start * w) (len * w) in
    let enough : start * w + len * w ≤ length bytes =
    subst (λ m. m ≤ length bytes) (sum_places start len w) (enough_numbers t n buffers children dictionary start len lawful within) in
    let slots : length s.items ≡ len = length-slice _ start len (omega (arith, within, length-items (kind.int t) n None buffers children dictionary)) in
    let valid : (j : ℕ) → j < len → valid_at s j ≡ is_valid buffers (start + j) =
    λ j h.
    ap (λ v. valid_in (option_map (λ b. slice b start len) v) j) (seen-validity (kind.int t) n None buffers children dictionary)
    ∙ ap (λ v. valid_in v j) (validity-part start len n (buffer_at buffers 0) within)
    ∙ valid-part start len j (buffer_at buffers 0) h in
    let slot : ℕ → Item = λ j. cond (is_valid buffers (start + j)) (int (number_at t bytes (start + j))) null in
    let shown : ℕ → Item = λ j. cond (valid_at s j) (int (number_at t numbers j)) null in
    let same : (j : ℕ) → j < len → slot (0 + j) ≡ shown (0 + j) =
    λ j h.
    ap slot (zero-add j)
    ∙ ap (λ v. cond v (int (number_at t bytes (start + j))) null) (sym (valid j h))
    ∙ ap (λ z. cond (valid_at s j) (int z) null) (sym (number_at-slice t bytes start len j h))
    ∙ ap shown (sym (zero-add j)) in
    record {
      size = length-slice bytes (start * w) (len * w) enough ∙ ap (λ m. m * w) (sym slots);
      numbers =
          ap (λ xs. slice xs start len) (seen-numbers t n None buffers children dictionary)
          ∙ slice-column (kind.int t) n buffers (child_items children) [] start len within
          ∙ map-range-below slot shown 0 len same
          ∙ ap (λ m. map shown (range_with_len 0 m)) (sym slots);
    }

-- item j of a part of an integer array
pub number_slot : (t : IntType) (bytes : List ℕ) (s : Seen) (j : ℕ) → HasNumbers t bytes s → j < length s.items
    → slice_get s.items j ≡ Some (cond (valid_at s j) (int (number_at t bytes j)) null)
number_slot t bytes s j has within =
    let shown : ℕ → Item = λ k. cond (valid_at s k) (int (number_at t bytes k)) null in
    slice_get-get_or s.items j null within
    ∙ ap (λ xs. Some (get_or xs j null)) has.numbers
    ∙ ap (λ x. Some x) (get_or-map-range_with_len shown 0 (length s.items) j j null within (zero-add j))

-- the bytes of number j are there
pub number_there : (t : IntType) (bytes : List ℕ) (s : Seen) (j : ℕ) → HasNumbers t bytes s → j < length s.items → j * bytes_of t.bits + bytes_of t.bits ≤ length bytes
number_there t bytes s j has within =
    let w = bytes_of t.bits in
    subst (λ m. j * w + w ≤ m) (sym has.size) (row_fits j w (length s.items) w within (omega arith))

-- ---- columns of values

-- the items of a view, by its values
pub items-seen : (value : ℕ → Item) (validity : Option (List Bool)) (n : ℕ) (s : Seen) → s.items ≡ valid_values value s → validity ≡ s.validity → n ≡ length s.items
    → items_where value validity n ≡ s.items
items-seen value validity n s has same size =
    ap (λ v. items_where value v n) same ∙ ap (items_where value s.validity) size ∙ sym has

-- the item of one slot
pub items-slot : (value : ℕ → Item) (validity : Option (List Bool)) (n j : ℕ) → j < n → get_or (items_where value validity n) j null ≡ cond (valid_in validity j) (value j) null
items-slot value validity n j within = get_or-map-range_with_len (λ k. cond (valid_in validity k) (value k) null) 0 n j j null within (zero-add j)

pub item_if : (b : Bool) (z : ℤ) → cond b (int z) null ≡ item_of (cond b (Some z) None)
item_if true z = refl
item_if false z = refl

-- ---- views

pub validity-view : (v : Inside) → v.start + v.len ≤ v.total → (show_view v).validity ≡ option_map (λ bytes. bits bytes v.start v.len) (buffer_at v.buffers.now 0)
validity-view v h =
    ap (option_map (λ b. slice b v.start v.len)) (seen-validity (view_kind v.ty) v.total None v.buffers.now (map reading v.children.now) (option_map checked_texts (option_map (λ w. arc_value w.now) v.words)))
    ∙ validity-part v.start v.len v.total (buffer_at v.buffers.now 0) h

pub valid-view : (v : Inside) (j : ℕ) → v.start + v.len ≤ v.total → j < v.len → valid_at (show_view v) j ≡ is_valid v.buffers.now (v.start + j)
valid-view v j h below = ap (λ o. valid_in o j) (validity-view v h) ∙ valid-part v.start v.len j (buffer_at v.buffers.now 0) below

pub bits-view : (v : Inside) (bytes : List ℕ) → (read_view v).fault ≡ None → buffer_at v.buffers.now 0 ≡ Some bytes → v.total ≤ 8 * length bytes
bits-view v bytes lawful is =
    bits_enough v.total bytes (buffer_at v.buffers.now 0) is
    (whole (view_kind v.ty) v.total None v.buffers.now (map reading v.children.now) (option_map checked_texts (option_map (λ w. arc_value w.now) v.words)) lawful).validity_enough

-- the numbers of an integer view, and that their bytes are there
pub record ViewNumbers (t : IntType) (v : Inside) : Type 0 where
  pub enough : v.start * bytes_of t.bits + v.len * bytes_of t.bits ≤ length (bytes_at v.buffers.now 1)
  pub numbers : HasNumbers t (slice (bytes_at v.buffers.now 1) (v.start * bytes_of t.bits) (v.len * bytes_of t.bits)) (show_view v)

pub numbers-view : (t : IntType) (v : Inside) → view_kind v.ty ≡ kind.int t → (read_view v).fault ≡ None → v.start + v.len ≤ v.total → ViewNumbers t v
numbers-view t v is lawful within =
    let children = map reading v.children.now in
    let words = option_map checked_texts (option_map (λ w. arc_value w.now) v.words) in
    let same = ap (λ k. read_parts k v.total None v.buffers.now children words) is in
    let lawful_int = sym (ap (λ (r : Reading). r.fault) same) ∙ lawful in
    record {
      enough =
          subst (λ m. m ≤ length (bytes_at v.buffers.now 1)) (sum_places v.start v.len (bytes_of t.bits))
          (enough_numbers t v.total v.buffers.now children words v.start v.len lawful_int within);
      numbers =
          subst (λ (r : Reading). HasNumbers t (slice (bytes_at v.buffers.now 1) (v.start * bytes_of t.bits) (v.len * bytes_of t.bits)) (part v.start v.len r.seen)) (sym same)
          (HasNumbers-part t v.total v.buffers.now children words v.start v.len lawful_int within);
    }

-- ---- counts

count_by-cons : (p : Bool → Bool) (x : Bool) (xs : List Bool) → count_by p (x ∷ xs) ≡ cond (p x) 1 0 + count_by p xs
count_by-cons p x xs = sum_by-cons (λ y. cond (p y) 1 0) x xs

both_counted : (xs : List Bool) → count_by not xs + count_by (λ b. b) xs ≡ length xs
both_counted [] = refl
both_counted (true ∷ xs) = omega (arith, count_by-cons not true xs, count_by-cons (λ b. b) true xs, both_counted xs)
both_counted (false ∷ xs) = omega (arith, count_by-cons not false xs, count_by-cons (λ b. b) false xs, both_counted xs)

pub nulls_counted : (xs : List Bool) (validity : Option (List Bool)) → validity ≡ Some xs → length xs - count_by (λ b. b) xs ≡ nulls_in validity
nulls_counted xs validity is =
    let n : length xs - count_by (λ b. b) xs ≡ count_by not xs = omega (arith, both_counted xs) in
    n ∙ ap nulls_in (sym is)

-- ---- what a dictionary may hold

pub text-recodable : (k : Kind) → is_recodable k ≡ true → is_text k ≡ true
text-recodable (kind.int t) h = cc
text-recodable kind.boolean h = cc
text-recodable (kind.texts w) h = refl
text-recodable (kind.lists w k) h = cc
text-recodable kind.dict h = refl

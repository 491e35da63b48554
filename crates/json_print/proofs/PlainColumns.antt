-- Columns that fit are plain values.
use Rattle.std.proofs.Common.{◌≡◌, ℕ, ◌+◌, ◌-◌, ◌<◌, ◌≤◌, ◌^◌, ℤ, pos, negsuc, neg_ℤ, List, [], ◌∷◌, length, Bool, true, false, not, Option, Some, None, position, refl, arith, lit<}
use Rattle.std.specs.Prelude.{◌≤ℤ◌, sum_by, unwrap_or}
use Rattle.std.specs.List.{AllByRecursion}
use Rattle.std.specs.Str.{bytes_eq}
use Rattle.std.proofs.lemmas.Int.{ints}
use Rattle.std.proofs.lemmas.List.Sums.{sum_by-cons}
use Rattle.arrays.specs.Prelude.{FieldShape, IntType, IsItemOf, Item, Narrow, OffsetWidth, Shape, W16, W32, W64, W8, Wide, Width, dict, field, inner_items, is_null}
use Rattle.arrays.specs.Item as column
use Rattle.arrays.specs.Kind as kind
use Rattle.arrays.specs.Shape as shape
use Rattle.arrays.specs.Shape.{int, boolean}
use Rattle.pool.proofs.PlaceLemmas.{position_found}
use Rattle.json_base.specs.Prelude.{Data}
use Rattle.json_print.specs.Prelude.{ArePlain, ArePlainMembers, FitsField, FitsOffset, FitsShape, IsPlain, code_data, code_in, column_data, each, flag_data, int_data, item_length, list_column, number_data, offset_data, offsets_data, plain_column, shaped_column, sized, text_column, text_data, truth_data, valid_data, whole_data}
use Rattle.json_print.proofs.Ranges.{high_of, low_of}

-- ---- slots

flag_plain : (b : Bool) → IsPlain (flag_data b)
flag_plain true = lit< tt
flag_plain false = lit< tt

each_plain : (value : Item → Data) → ((x : Item) → IsPlain (value x)) → (items : List Item) → ArePlain (each value items)
each_plain value plain [] = tt
each_plain value plain (x ∷ xs) = (plain x, each_plain value plain xs)

truth_plain : (x : Item) → IsPlain (truth_data x)
truth_plain column.null = flag_plain false
truth_plain (column.int z) = flag_plain false
truth_plain (column.boolean b) = flag_plain b
truth_plain (column.text t) = flag_plain false
truth_plain (column.list l) = flag_plain false

text_plain : (x : Item) → IsPlain (text_data x)
text_plain column.null = tt
text_plain (column.int z) = tt
text_plain (column.boolean b) = tt
text_plain (column.text t) = tt
text_plain (column.list l) = tt

flags_plain : (items : List Item) → ArePlain (each valid_data items)
flags_plain = each_plain valid_data (λ x. flag_plain (not (is_null x)))

whole_plain : (z : ℤ) → neg_ℤ (pos (2 ^ 63)) ≤ℤ z → z ≤ℤ pos (2 ^ 64 - 1) → IsPlain (whole_data z)
whole_plain (pos n) low high = omega (arith, ints)
whole_plain (negsuc n) low high = omega (arith, ints)

int_plain : (w : Width) (z : ℤ) → neg_ℤ (pos (2 ^ 63)) ≤ℤ z → z ≤ℤ pos (2 ^ 64 - 1) → IsPlain (int_data w z)
int_plain W8 z low high = whole_plain z low high
int_plain W16 z low high = whole_plain z low high
int_plain W32 z low high = whole_plain z low high
int_plain W64 z low high = tt

zero_plain : (w : Width) → IsPlain (int_data w (pos 0))
zero_plain W8 = lit< tt
zero_plain W16 = lit< tt
zero_plain W32 = lit< tt
zero_plain W64 = tt

number_plain : (t : IntType) (x : Item) → IsItemOf (kind.int t) x → IsPlain (number_data t x)
number_plain t column.null h = zero_plain t.bits
number_plain t (column.int z) h = int_plain t.bits z (low_of t z h) (high_of t z h)
number_plain t (column.boolean b) h = absurd h
number_plain t (column.text bytes) h = absurd h
number_plain t (column.list l) h = absurd h

numbers_plain : (t : IntType) (items : List Item) → AllByRecursion (IsItemOf (kind.int t)) items → ArePlain (each (number_data t) items)
numbers_plain t [] h = tt
numbers_plain t (x ∷ xs) h = (number_plain t x h.0, numbers_plain t xs h.1)

offset_plain : (w : OffsetWidth) (n : ℕ) → FitsOffset w n → IsPlain (offset_data w n)
offset_plain Narrow n h = h
offset_plain Wide n h = tt

-- An offset that isn't behind one that fits.
before : (w : OffsetWidth) (m n : ℕ) → m ≤ n → FitsOffset w n → FitsOffset w m
before Narrow m n below h = omega (arith, below, h)
before Wide m n below h = tt

offsets_plain : (w : OffsetWidth) (start : ℕ) (items : List Item) → FitsOffset w (start + sum_by item_length items) → ArePlain (offsets_data w start items)
offsets_plain w start [] h = (offset_plain w start (before w start _ (omega arith) h), tt)
offsets_plain w start (x ∷ xs) h = (
  offset_plain w start (before w start _ (omega arith) h),
  offsets_plain w (start + item_length x) xs (before w _ _ (omega (arith, sum_by-cons item_length x xs)) h),
)

code_small : (texts : List (List ℕ)) (t : List ℕ) → length texts < 2 ^ 64 → code_in texts t < 2 ^ 64
code_small texts t few = go (position (bytes_eq t) texts) refl where
  go : (o : Option ℕ) → position (bytes_eq t) texts ≡ o → unwrap_or o 0 < 2 ^ 64
  go None is = lit< tt
  go (Some k) is = omega (arith, few, (position_found (bytes_eq t) texts k is).1)

code_plain : (texts : List (List ℕ)) → length texts < 2 ^ 64 → (x : Item) → IsPlain (code_data (code_in texts) x)
code_plain texts few column.null = lit< tt
code_plain texts few (column.int z) = lit< tt
code_plain texts few (column.boolean b) = lit< tt
code_plain texts few (column.text t) = code_small texts t few
code_plain texts few (column.list l) = lit< tt

-- ---- columns

sized_plain : (n : ℕ) (name : List ℕ) → n < 2 ^ 64 → ArePlainMembers (sized n name)
sized_plain n name few = (few, (refl, tt), (tt, tt, tt))

plain_column_plain : (value : Item → Data) (name : List ℕ) (items : List Item) → length items < 2 ^ 64 → ArePlain (each value items) → IsPlain (plain_column value name items)
plain_column_plain value name items few plain =
    (plain, (refl, (refl, (refl, tt))), (flags_plain items, (refl, (refl, tt)), sized_plain (length items) name few))

pub text_column_plain : (w : OffsetWidth) (name : List ℕ) (items : List Item) → length items < 2 ^ 64 → FitsOffset w (sum_by item_length items) → IsPlain (text_column w name items)
text_column_plain w name items few short = (
  each_plain text_data text_plain items,
  (refl, (refl, (refl, (refl, tt)))),
  (offsets_plain w 0 items (before w _ _ (omega arith) short), (refl, (refl, (refl, tt))), (flags_plain items, (refl, (refl, tt)), sized_plain (length items) name few)),
)

list_column_plain : (w : OffsetWidth) (child : Data) (name : List ℕ) (items : List Item) → length items < 2 ^ 64 → FitsOffset w (sum_by item_length items) → IsPlain child
    → IsPlain (list_column w child name items)
list_column_plain w child name items few short plain = (
  offsets_plain w 0 items (before w _ _ (omega arith) short),
  (refl, (refl, (refl, (refl, tt)))),
  (flags_plain items, (refl, (refl, (refl, tt))), ((plain, tt), (refl, (refl, tt)), sized_plain (length items) name few)),
)

mutual
  pub column_plain : (texts : List (List ℕ)) → length texts < 2 ^ 64 → (f : FieldShape) (items : List Item) → FitsField f items → IsPlain (column_data (code_in texts) f items)
  column_plain texts small (field name nullable ty) items h = shaped_plain texts small ty name items h.0 h.1

  shaped_plain : (texts : List (List ℕ)) → length texts < 2 ^ 64 → (ty : Shape) (name : List ℕ) (items : List Item) → length items < 2 ^ 64 → FitsShape ty items → IsPlain (shaped_column (code_in texts) ty name items)
  shaped_plain texts small (int t) name items few h = plain_column_plain (number_data t) name items few (numbers_plain t items h)
  shaped_plain texts small boolean name items few h = plain_column_plain truth_data name items few (each_plain truth_data truth_plain items)
  shaped_plain texts small (shape.texts w) name items few h = text_column_plain w name items few h
  shaped_plain texts small (shape.lists w f) name items few h =
      list_column_plain w (column_data (code_in texts) f (inner_items items)) name items few h.0 (column_plain texts small f (inner_items items) h.1)
  shaped_plain texts small dict name items few h =
      plain_column_plain (code_data (code_in texts)) name items few (each_plain (code_data (code_in texts)) (code_plain texts small) items)

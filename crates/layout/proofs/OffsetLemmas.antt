-- What holds of each slot of an array that has no fault of its own.
use Rattle.std.proofs.Common.{◌≡◌, ◌∙◌, ℕ, zero, suc, ◌+◌, ◌-◌, ◌<◌, ◌≤◌, ℤ, pos, negsuc, int_lt, List, length, Bool, true, false, not, cond, nat_lt, Some, None, ap, refl, arith}
use Rattle.std.proofs.lemmas.Bool.{ltb-false}
use Rattle.std.specs.List.{position_or_len, range_with_len}
use Rattle.std.proofs.lemmas.List.FromFn.{length-range_with_len}
use Rattle.types.specs.declared.offset_width.OffsetWidth.{OffsetWidth}
use Rattle.types.specs.Kind as kind
use Rattle.types.specs.Prelude.{Kind, natural, offset_width}
use Rattle.layout.specs.Prelude.{Buffers, Inner, bytes_at, child_length, decreasing_row, is_past_end, least_decreasing, least_row, offset_at, start_at}

-- ---- each row fails where none is reported

first_step : (test : ℕ → Bool) (a : ℕ) (b : Bool) (rest : ℕ) (n : ℕ) → suc n ≤ cond (not b) (1 + rest) 0 → (b ≡ false) × (n ≤ rest)
first_step test a true rest n h = absurd (omega arith)
first_step test a false rest n h = (refl, omega arith)

fails_before : (test : ℕ → Bool) (a n : ℕ) → n ≤ position_or_len test (range_with_len a n) → (k : ℕ) → k < n → test (a + k) ≡ false
fails_before test a zero h k below = absurd (omega arith)
fails_before test a (suc n) h zero below =
    ap test (omega arith) ∙ (first_step test a (test a) (position_or_len test (range_with_len (a + 1) n)) n h).0
fails_before test a (suc n) h (suc k) below =
    let rest = (first_step test a (test a) (position_or_len test (range_with_len (a + 1) n)) n h).1 in
    ap test (omega arith) ∙ fails_before test (a + 1) n rest k (omega arith)

none_within : (b : Bool) (place : ℕ) → cond b (Some place) None ≡ None → b ≡ false
none_within true place h = cc
none_within false place h = refl

-- where no row is the least that passes, each fails
pub fails-least_none : (test : ℕ → Bool) (n : ℕ) → least_row test n ≡ None → (k : ℕ) → k < n → test k ≡ false
fails-least_none test n h k below =
    let place = position_or_len test (range_with_len 0 n) in
    let past : nat_lt place (length (range_with_len 0 n)) ≡ false = none_within (nat_lt place (length (range_with_len 0 n))) place h in
    let long : n ≤ place = omega (arith, ltb-false place (length (range_with_len 0 n)) past, length-range_with_len 0 n) in
    ap test (omega arith) ∙ fails_before test 0 n long k below

-- ---- offsets rise

natural-rises : (x y : ℤ) → int_lt y x ≡ false → natural x ≤ natural y
natural-rises (pos a) (pos b) h = ltb-false b a h
natural-rises (pos a) (negsuc b) h = cc
natural-rises (negsuc a) (pos b) h = omega arith
natural-rises (negsuc a) (negsuc b) h = omega arith

-- a slot begins where the one before it ends, or after
pub start-rises : (w : OffsetWidth) (n : ℕ) (buffers : Buffers) → least_decreasing w n buffers ≡ None
    → (j : ℕ) → j < n → start_at w (bytes_at buffers 1) j ≤ start_at w (bytes_at buffers 1) (j + 1)
start-rises w n buffers none j below =
    natural-rises (offset_at w buffers j) (offset_at w buffers (j + 1)) (fails-least_none (λ i. int_lt (offset_at w buffers (i + 1)) (offset_at w buffers i)) n none j below)

-- the test of a kind is that of its offsets
pub decreasing_row-offsets : (k : Kind) (w : OffsetWidth) (n : ℕ) (buffers : Buffers) → offset_width k ≡ Some w → decreasing_row k n buffers ≡ least_decreasing w n buffers
decreasing_row-offsets (kind.texts v) w n buffers h = cc
decreasing_row-offsets (kind.lists v k) w n buffers h = cc
decreasing_row-offsets (kind.int t) w n buffers h = cc
decreasing_row-offsets kind.boolean w n buffers h = cc
decreasing_row-offsets kind.dict w n buffers h = cc

pub rises_by : (starts : ℕ → ℕ) (n : ℕ) → ((j : ℕ) → j < n → starts j ≤ starts (j + 1)) → (d j : ℕ) → j + d ≤ n → starts j ≤ starts (j + d)
rises_by starts n h zero j within =
    let same : starts j ≡ starts (j + 0) = ap starts (omega arith) in
    omega arith
rises_by starts n h (suc d) j within =
    let here = h j (omega arith) in
    let there = rises_by starts n h d (j + 1) (omega arith) in
    let same : starts (j + 1 + d) ≡ starts (j + suc d) = ap starts (omega arith) in
    omega arith

-- each slot ends before the last one does
pub start-le-last : (w : OffsetWidth) (n : ℕ) (buffers : Buffers) → least_decreasing w n buffers ≡ None
    → (j : ℕ) → j ≤ n → start_at w (bytes_at buffers 1) j ≤ start_at w (bytes_at buffers 1) n
start-le-last w n buffers none j within =
    let rise = rises_by (start_at w (bytes_at buffers 1)) n (start-rises w n buffers none) (n - j) j (omega arith) in
    let same : start_at w (bytes_at buffers 1) (j + (n - j)) ≡ start_at w (bytes_at buffers 1) n = ap (start_at w (bytes_at buffers 1)) (omega arith) in
    omega arith

-- the texts end within the bytes
pub text_ends : (w : OffsetWidth) (n : ℕ) (buffers : Buffers) (children : List Inner) → least_decreasing w n buffers ≡ None → is_past_end (kind.texts w) n buffers children ≡ false
    → (j : ℕ) → j ≤ n → start_at w (bytes_at buffers 1) j ≤ length (bytes_at buffers 2)
text_ends w n buffers children none within j below =
    let last = ltb-false (length (bytes_at buffers 2)) (start_at w (bytes_at buffers 1) n) within in
    omega (arith, start-le-last w n buffers none j below)

-- the lists end within the child
pub list_ends : (w : OffsetWidth) (k : Kind) (n : ℕ) (buffers : Buffers) (children : List Inner) → least_decreasing w n buffers ≡ None → is_past_end (kind.lists w k) n buffers children ≡ false
    → (j : ℕ) → j ≤ n → start_at w (bytes_at buffers 1) j ≤ child_length children
list_ends w k n buffers children none within j below =
    let last = ltb-false (child_length children) (start_at w (bytes_at buffers 1) n) within in
    omega (arith, start-le-last w n buffers none j below)

-- Numbers of a type, and numbers written one behind the other.
use Rattle.std.proofs.Common.{◌≡◌, ◌∙◌, ◌^◌, ◌*ℤ◌, ◌≤ℤ◌, neg_ℤ, Option, Some, None, SomeIff, IfNone, ℕ, ◌+◌, ◌*◌, ◌<◌, ◌≤◌, ℤ, pos, List, ◌++◌, Bool, true, false, length, ap, sym, subst, refl, arith, FitsSigned, length-append}
use borrow.Author.Count.{below_more}
use Rattle.std.specs.Int.{w128}
use Rattle.std.proofs.lemmas.Int.{ints}
use Rattle.std.proofs.lemmas.Nat.{row_fits}
use Rattle.arrays.specs.Prelude.{IntType, W16, W32, W64, W8, Width, bytes_of, bytes_of_number, is_of_type, number_at}
use Rattle.arrays.proofs.NumberLemmas.{FitsSigned-from_type}
use Rattle.arrays.proofs.RangeLemmas.{IsOfType-from_test}
use Rattle.arrays.proofs.EncodingLemmas.{length-bytes_of_number, number_at-append-front, number_at-append-end}
use Rattle.kernels.specs.Computed.{AreResults}

-- ---- the test of a number

pub FitsSigned-from_test : (t : IntType) (z : ℤ) → is_of_type t z ≡ true → FitsSigned w128 z
FitsSigned-from_test t z h = FitsSigned-from_type t z (IsOfType-from_test t z h)

-- a number of any of the eight types is one of 128 bits
pub FitsSigned-from_range : (z : ℤ) → neg_ℤ (pos (2 ^ 64)) ≤ℤ z → z ≤ℤ pos (2 ^ 64) → FitsSigned w128 z
FitsSigned-from_range z low high = omega (arith, ints)

by_test : {P : Type 0} (b : Bool) → (b ≡ true → P) → (b ≡ false → P) → P
by_test true holds fails = holds refl
by_test false holds fails = fails refl

-- a number past 128 bits is of no type
too_wide : (t : IntType) (z : ℤ) → (FitsSigned w128 z → ⊥) → is_of_type t z ≡ false
too_wide t z h = by_test (is_of_type t z) (λ yes. absurd (h (FitsSigned-from_test t z yes))) (λ no. no)

-- a product that 128 bits don't hold is of no type
pub unheld : (r : Option ℤ) (x y bx by : ℤ) → bx ≡ x → by ≡ y → SomeIff r (FitsSigned w128 (bx *ℤ by)) (bx *ℤ by) → IfNone r ((t : IntType) → is_of_type t (x *ℤ y) ≡ false)
unheld None x y bx by same_x same_y h = λ t. subst (λ z. is_of_type t z ≡ false) (ap (λ v. v *ℤ by) same_x ∙ ap (λ v. x *ℤ v) same_y) (too_wide t (bx *ℤ by) h)
unheld (Some z) x y bx by same_x same_y h = tt

number_of_zero : (w : Width) (signed : Bool) → is_of_type (record { bits = w; signed = signed }) (pos 0) ≡ true
number_of_zero W8 true = refl
number_of_zero W16 true = refl
number_of_zero W32 true = refl
number_of_zero W64 true = refl
number_of_zero w signed = refl

pub is_of_type-zero : (t : IntType) → is_of_type t (pos 0) ≡ true
is_of_type-zero t = number_of_zero t.bits t.signed

-- ---- one number more

more_rows : (n w : ℕ) → n * w + w ≡ (n + 1) * w
more_rows n w = omega arith

pub AreResults-more : (t : IntType) (result : ℕ → ℤ) (valid : ℕ → Bool) (n : ℕ) (bytes longer : List ℕ) (pushed z : ℤ) → AreResults t result valid n bytes → longer ≡ bytes ++ bytes_of_number t pushed
    → pushed ≡ z → is_of_type t z ≡ true → (valid n ≡ true → z ≡ result n) → AreResults t result valid (n + 1) longer
AreResults-more t result valid n bytes longer pushed z are grows same fits here =
    let grown = grows ∙ ap (λ y. bytes ++ bytes_of_number t y) same in
    let w = bytes_of t.bits in
    let added = bytes_of_number t z in
    let of_type = IsOfType-from_test t z fits in
    let within : (j : ℕ) → j < n → j * w + w ≤ length bytes = λ j before. subst (λ m. j * w + w ≤ m) (sym are.size) (row_fits j w n w before (omega arith)) in
    record {
      size =
          ap length grown
          ∙ length-append bytes added
          ∙ ap (λ m. m + length added) are.size
          ∙ ap (λ m. n * w + m) (length-bytes_of_number t z)
          ∙ more_rows n w;
      numbers =
          below_more (λ j. valid j ≡ true → number_at t longer j ≡ result j) n
          (λ j before is_valid. ap (λ v. number_at t v j) grown ∙ number_at-append-front t bytes added j (within j before) ∙ are.numbers j before is_valid)
          (λ is_valid. ap (λ v. number_at t v n) grown ∙ number_at-append-end t bytes z n (sym are.size) of_type ∙ here is_valid);
      of_type = record {
        each = below_more (λ j. valid j ≡ true → is_of_type t (result j) ≡ true) n are.of_type.each (λ is_valid. ap (is_of_type t) (sym (here is_valid)) ∙ fits);
      };
    }

-- Numbers of one type that are computed slot by slot.
use Rattle.std.specs.Prelude.{◌≡◌, ℕ, ◌+◌, ◌*◌, ◌<◌, ◌&&◌, ℤ, pos, List, [], Bool, true, false, not, nat_lt, length, slice_index_or, if◌then◌else◌}
use Rattle.std.specs.List.{flat_map, range_with_len}
use Rattle.colbits.specs.Bit.{bit_in}
use Rattle.arrays.specs.Prelude.{IntType, bytes_of, bytes_of_number, is_of_type, number_at}
use Rattle.kernels.specs.declared.fault.KernelFault.{KernelFault}
use Rattle.kernels.specs.declared.fault.KernelFault.TheVariants.{Overflow, NoMemory}

-- f of the two numbers at a place, exactly.
abbrev pub result_at : (ℤ → ℤ → ℤ) → (ℕ → ℤ) → (ℕ → ℤ) → ℕ → ℤ
result_at f x y j = f (x j) (y j)

-- The result at each valid one of n slots is of the type.
pub record AreOfType (t : IntType) (result : ℕ → ℤ) (valid : ℕ → Bool) (n : ℕ) : Type 0 where
  pub each : (j : ℕ) → j < n → valid j ≡ true → is_of_type t (result j) ≡ true

-- The bytes have a number for each of n slots, the result where the slot is valid, and these are of the type.
pub record AreResults (t : IntType) (result : ℕ → ℤ) (valid : ℕ → Bool) (n : ℕ) (bytes : List ℕ) : Type 0 where
  pub size : length bytes ≡ n * bytes_of t.bits
  pub numbers : (j : ℕ) → j < n → valid j ≡ true → number_at t bytes j ≡ result j
  pub of_type : AreOfType t result valid n

-- The result at a slot where it is of the type, else 0.
abbrev pub result_or_zero : IntType → (ℕ → ℤ) → ℕ → ℤ
result_or_zero t result j = if is_of_type t (result j) then result j else pos 0

-- The bytes of these numbers of the n slots from slot start on, one behind the other.
unfoldable pub bytes_of_results : IntType → (ℕ → ℤ) → ℕ → ℕ → List ℕ
bytes_of_results t result start n = flat_map (λ j. bytes_of_number t (result_or_zero t result j)) (range_with_len start n)

-- The results of the n slots from slot start on are of the type, and the rows are their bytes.
pub record AreRows (t : IntType) (result : ℕ → ℤ) (start n : ℕ) (rows : List (List ℕ)) : Type 0 where
  pub of_type : (j : ℕ) → j < n → is_of_type t (result (start + j)) ≡ true
  pub bytes : (j : ℕ) → j < n → slice_index_or rows j [] ≡ bytes_of_number t (result (start + j))

-- The word has a bit for each of the n slots from slot start on, 1 where the result is outside the type; all others are 0.
pub record AreOutside (t : IntType) (result : ℕ → ℤ) (start n word : ℕ) : Type 0 where
  pub each : (j : ℕ) → bit_in word j ≡ (nat_lt j n && not (is_of_type t (result (start + j))))

-- The least valid one of n slots whose result is outside the type.
pub record IsLeastOutside (t : IntType) (result : ℕ → ℤ) (valid : ℕ → Bool) (n row : ℕ) : Type 0 where
  pub within : row < n
  pub is_valid : valid row ≡ true
  pub outside : is_of_type t (result row) ≡ false
  pub before : AreOfType t result valid row

-- Why there are no results: the least slot whose result is outside the type, or want of memory.
abbrev pub StopsAt : IntType → (ℕ → ℤ) → (ℕ → Bool) → ℕ → KernelFault → Type 0
StopsAt t result valid n (Overflow row) = IsLeastOutside t result valid n row
StopsAt t result valid n NoMemory = Unit {0}
StopsAt t result valid n fault = ⊥

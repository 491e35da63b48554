-- A dictionary-encoded view by its codes.
use Rattle.std.specs.Prelude.{◌≡◌, ℕ, Bool, List, Option, All, length, true}
use Rattle.arrays.specs.Prelude.{HasNumbers, Seen, codes_of, dictionary_of, encoded, int32, is_code}

-- The bytes have the view's codes, this is its validity, and each code names the entry that the slot shows.
pub record HasCodes (bytes : List ℕ) (validity : Option (List Bool)) (s : Seen) : Type 0 where
  pub numbers : HasNumbers int32 bytes (codes_of s)
  pub validity_is : validity ≡ s.validity
  pub items : s ≡ encoded (codes_of s) (dictionary_of s)
  pub within : All (λ c. is_code (length s.entries.items) c ≡ true) s.codes

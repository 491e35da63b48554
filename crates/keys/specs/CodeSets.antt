-- Where codes stand among codes.
use Rattle.std.specs.Prelude.{◌≡◌, ℕ, ◌+◌, ◌-◌, ◌^◌, false, ltb, nat_eq, List, Some, if◌then◌else◌, slice_get, slice_index_or}
use Rattle.std.specs.List.{IsDistinct, list_any}

-- One more than the place of a code, 0 where it has none: the first 2^17 codes stand in the first table, those behind in the second.
abbrev pub place_end : List ℕ → List ℕ → ℕ → ℕ
place_end numbers others c = if ltb c (2 ^ 17) then slice_index_or numbers c 0 else slice_index_or others (c - 2 ^ 17) 0

-- One more than the place of each of the codes is reported, and 0 of others. None of them is there twice.
pub record ArePlaced (codes : List ℕ) (ends : ℕ → ℕ) : Type 0 where
  pub there : (c n : ℕ) → ends c ≡ n + 1 → slice_get codes n ≡ Some c
  pub absent : (c : ℕ) → ends c ≡ 0 → list_any (nat_eq c) codes ≡ false
  pub once : IsDistinct nat_eq codes

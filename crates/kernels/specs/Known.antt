-- Truth values that are known, or aren't.
use Rattle.std.specs.Prelude.{◌≡◌, List, Bool, Option}
use Rattle.arrays.specs.Prelude.{HasBits, Seen}

-- The bits are a view's truth values where its slots are valid, and this is its validity.
pub record HasTruths (bits : List Bool) (validity : Option (List Bool)) (s : Seen) : Type 0 where
  pub values : HasBits bits s
  pub validity_is : validity ≡ s.validity

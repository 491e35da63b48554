-- What a pool shows of itself.
use Rattle.std.specs.Prelude.{◌≡◌, ℕ, true, false, List, map}
use Rattle.std.specs.String.{string_bytes}
use Rattle.pool.specs.Texts.{is_once, is_too_full, byte_count}
use Rattle.pool.specs.declared.text_pool.TextPool.TheInside.{Inside}

-- The bytes of each text, in order.
abbrev pub show_pool : Inside → List (List ℕ)
show_pool p = map string_bytes p.texts.keys

-- No text comes twice, all fit a column, and their bytes are counted.
pub record IsPool (texts : List (List ℕ)) (bytes : ℕ) : Type 0 where
  pub once : is_once texts ≡ true
  pub fits : is_too_full texts ≡ false
  pub counted : bytes ≡ byte_count texts

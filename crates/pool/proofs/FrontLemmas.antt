-- A column of the first texts of a pool.
use Rattle.std.proofs.Common.{◌≡◌, ◌∙◌, ℕ, List, false, map, take, ap, le-ltb}
use Rattle.arrays.specs.Prelude.{Item, is_past, most_slots, text, text_bytes}
use Rattle.pool.specs.Texts.{byte_count, is_too_full}
use Rattle.pool.proofs.TextLemmas.{fits_from, is_too_full-take}
use Rattle.pool.proofs.UnifyLemmas.{text_bytes-map}

-- its bytes fit where those of all texts do
pub front_fits : (pool : List (List ℕ)) (items : List Item) (n : ℕ) → items ≡ map text (take n pool) → is_too_full pool ≡ false → is_past (text_bytes items) ≡ false
front_fits pool items n are fits =
    ap (λ l. is_past (text_bytes l)) are
    ∙ ap is_past (text_bytes-map (take n pool))
    ∙ le-ltb most_slots (byte_count (take n pool)) (fits_from (take n pool) (is_too_full-take pool n fits)).1

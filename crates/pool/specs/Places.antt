-- The places of items among the texts of a pool.
use Rattle.std.specs.Prelude.{◌≡◌, ◌<◌, ℕ, pos, List, Option, Some, None, IfSome, option_map, slice_index_or, ⊤}
use Rattle.arrays.specs.Prelude.{Item, int, item_of, most_slots, null, text}
use Rattle.pool.specs.Codes.{code_item}
use Rattle.pool.specs.Texts.{with_text}

-- The texts with that of the item, if it is one, at the end, unless it is among them.
abbrev pub with_item : List (List ℕ) → Item → List (List ℕ)
with_item ts (text t) = with_text ts t
with_item ts _ = ts

-- The new pool is the old one with the text of the item, which has this place there: none where the item is no text.
pub record IsPlaced (old new : List (List ℕ)) (x : Item) (place : Option ℕ) : Type 0 where
  pub texts : new ≡ with_item old x
  pub code : item_of (option_map pos place) ≡ code_item new x
  pub small : IfSome place (λ p. p < most_slots)

-- The place, if there is one, is that of the item's text.
abbrev pub IsKnown : List (List ℕ) → Item → Option ℕ → Type 0
IsKnown pool x None = ⊤
IsKnown pool x (Some p) = code_item pool x ≡ int (pos p)

-- Of some of the items the places of their texts.
abbrev pub AreKnown : List (List ℕ) → List Item → List (Option ℕ) → Type 0
AreKnown pool items known = (k : ℕ) → IsKnown pool (slice_index_or items k null) (slice_index_or known k None)

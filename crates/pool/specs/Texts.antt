-- Texts in order of coming, each once.
use Rattle.std.specs.Prelude.{◌≡◌, ◌⊎◌, ℕ, Bool, true, false, not, ◌||◌, ◌&&◌, nat_lt, List, [], ◌∷◌, ◌++◌, length, filter, filter_map, sum_by, position, Option, Some, None, if◌then◌else◌}
use Rattle.std.specs.List.{list_any}
use Rattle.std.specs.Str.{bytes_eq}
use Rattle.arrays.specs.Prelude.{Item, most_slots, text}
use Rattle.pool.specs.declared.fault.PoolFault.{PoolFault}
use Rattle.pool.specs.declared.fault.PoolFault.TheVariants.{NoMemory, TextsFull}

-- The bytes of a text, none of an item that is no text.
abbrev pub text_of : Item → Option (List ℕ)
text_of (text t) = Some t
text_of _ = None

-- The texts that are there, in order.
abbrev pub texts_of : List Item → List (List ℕ)
texts_of items = filter_map text_of items

-- Each text once, in order of first appearance.
abbrev pub firsts : List (List ℕ) → List (List ℕ)
firsts [] = []
firsts (t ∷ ts) = t ∷ filter (λ u. not (bytes_eq u t)) (firsts ts)

-- Whether the text is among these.
abbrev pub is_among : List (List ℕ) → List ℕ → Bool
is_among ts t = list_any (bytes_eq t) ts

-- Whether no text comes twice.
abbrev pub is_once : List (List ℕ) → Bool
is_once [] = true
is_once (t ∷ ts) = not (is_among ts t) && is_once ts

-- The texts with one more at the end, unless it is among them.
abbrev pub with_text : List (List ℕ) → List ℕ → List (List ℕ)
with_text ts t = if is_among ts t then ts else ts ++ t ∷ []

-- How many bytes the texts have together.
abbrev pub byte_count : List (List ℕ) → ℕ
byte_count ts = sum_by length ts

-- Whether a column of texts could not hold these: more texts, or more bytes together, than its 32-bit numbers count.
abbrev pub is_too_full : List (List ℕ) → Bool
is_too_full ts = nat_lt most_slots (length ts) || nat_lt most_slots (byte_count ts)

-- The place of the text among these.
abbrev pub place_of : List (List ℕ) → List ℕ → Option ℕ
place_of ts t = position (bytes_eq t) ts

-- Why a text isn't put in: with it the pool would be too full, or, where it wouldn't, a growth was refused.
abbrev pub IsPoolFault : Bool → PoolFault → Type 0
IsPoolFault full reported = ((reported ≡ TextsFull) × (full ≡ true)) ⊎ ((reported ≡ NoMemory) × (full ≡ false))

-- How much the items of a column hold together, and columns cut by such lengths.
use Rattle.std.specs.Prelude.{◌≡◌, ◌⊎◌, ◌||◌, ℕ, List, [], ◌∷◌, length, take, drop, sum_by, flat_map, Option, Some, None, Bool, true, false, nat_lt, unwrap_or}
use Rattle.layout.specs.Prelude.{Item, Seen, items_of, list, list_of, null, text}
use Rattle.arrays.specs.declared.builder.fault.BuildFault.{BuildFault}
use Rattle.arrays.specs.declared.builder.fault.BuildFault.TheVariants.{NoMemory, OffsetsFull}
use Rattle.types.specs.Prelude.{Kind, is_full, most_slots}
use Rattle.types.specs.Kind as kind

-- How many bytes a text has.
abbrev pub text_length : Item → ℕ
text_length (text t) = length t
text_length x = 0

-- How many bytes the texts of a column have together.
abbrev pub text_bytes : List Item → ℕ
text_bytes items = sum_by text_length items

-- The items of a list, none of what is no list.
abbrev pub items_in : Item → List Item
items_in (list xs) = items_of xs
items_in x = []

-- The items of all lists, one list after the other.
abbrev pub inner_items : List Item → List Item
inner_items items = flat_map items_in items

-- The items of columns, one column after the other.
abbrev pub joined_items : List Seen → List Item
joined_items columns = flat_map (λ s. s.items) columns

-- How long a list is, none of what is no list.
abbrev pub list_length : Item → Option ℕ
list_length (list xs) = Some (length (items_of xs))
list_length x = None

-- How long lists are together.
abbrev pub total : List (Option ℕ) → ℕ
total lengths = sum_by (λ l. unwrap_or l 0) lengths

-- Lists of these lengths, cut one after the other from the items; null where there is no length.
abbrev pub cut : List (Option ℕ) → List Item → List Item
cut [] items = []
cut (None ∷ lengths) items = null ∷ cut lengths items
cut (Some n ∷ lengths) items = list (list_of (take n items)) ∷ cut lengths (drop n items)

-- More than 32-bit offsets count. (Arrow columnar format, "Variable-size binary layout", "Variable-size list layout")
abbrev pub is_past : ℕ → Bool
is_past n = nat_lt most_slots n

-- At some level of lists the bytes of all texts are more than their offsets count, or the items of all lists are more than an array has.
abbrev pub is_too_big : Kind → List Item → Bool
is_too_big (kind.texts w) items = is_full w (text_bytes items)
is_too_big (kind.lists w k) items = is_past (length (inner_items items)) || is_too_big k (inner_items items)
is_too_big k items = false

-- Why a slot is refused: with it the offsets would be past what they count, or, where they aren't, a growth was refused.
abbrev pub IsBuildFault : Bool → BuildFault → Type 0
IsBuildFault past reported = ((reported ≡ OffsetsFull) × (past ≡ true)) ⊎ ((reported ≡ NoMemory) × (past ≡ false))

-- Why many slots are refused: offsets that are full, only where they would be, or want of memory.
abbrev pub IsFull : Bool → BuildFault → Type 0
IsFull full reported = ((reported ≡ OffsetsFull) × (full ≡ true)) ⊎ (reported ≡ NoMemory)

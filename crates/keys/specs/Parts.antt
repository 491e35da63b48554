-- The parts of keys, whose texts stand in a list.
use Rattle.std.specs.Bool.{beq}
use Rattle.std.specs.Ordering.{int_eq}
use Rattle.std.specs.Prelude.{ℕ, ◌<◌, ◌==◌, Bool, true, false, List, [], map, slice_index_or, All, ⊤}
use Rattle.arrays.specs.Prelude.{Item, boolean, int, null, text}
use Rattle.keys.specs.declared.part.Part.{Part}
use Rattle.keys.specs.declared.part.Part.TheVariants as part

-- The item that a part stands for.
abbrev pub item_of_part : List (List ℕ) → Part → Item
item_of_part texts part.Null = null
item_of_part texts (part.Int z) = int z
item_of_part texts (part.Bool b) = boolean b
item_of_part texts (part.Text n) = text (slice_index_or texts n [])

-- The text of the part is one of so many.
abbrev pub IsWithin : ℕ → Part → Type 0
IsWithin n part.Null = ⊤
IsWithin n (part.Int z) = ⊤
IsWithin n (part.Bool b) = ⊤
IsWithin n (part.Text m) = m < n

abbrev pub key_of_parts : List (List ℕ) → List Part → List Item
key_of_parts texts parts = map (item_of_part texts) parts

-- The texts of all parts of all keys are some of so many.
abbrev pub AreWithin : ℕ → List (List Part) → Type 0
AreWithin n keys = All (All (IsWithin n)) keys

abbrev pub keys_shown : List (List ℕ) → List (List Part) → List (List Item)
keys_shown texts keys = map (key_of_parts texts) keys

-- Whether two parts are the same.
abbrev pub same_part : Part → Part → Bool
same_part part.Null part.Null = true
same_part (part.Int x) (part.Int y) = int_eq x y
same_part (part.Bool x) (part.Bool y) = beq x y
same_part (part.Text m) (part.Text n) = m == n
same_part p q = false

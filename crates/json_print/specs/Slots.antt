-- What is written of slots, and of columns one behind the other.
use Rattle.std.specs.Prelude.{◌≡◌, ℕ, ◌+◌, List, [], ◌∷◌, ◌++◌, Bool, true, false, position, unwrap_or, ⊤}
use Rattle.std.specs.List.{All, flat_map}
use Rattle.std.specs.Str.{bytes_eq}
use Rattle.arrays.specs.Prelude.{Item, Kind, OffsetWidth, Seen}
use Rattle.arrays.specs.Kind as kind
use Rattle.json.specs.Token.{Token}
use Rattle.json_base.specs.Prelude.{Data}
use Rattle.json_print.specs.Written.{tokens_of}
use Rattle.json_print.specs.ColumnData.{code_data, item_length, number_data, offset_data, text_data, truth_data, valid_data}
use Rattle.json_print.specs.declared.slots.Part.{Part}
use Rattle.json_print.specs.declared.slots.Part.TheVariants.{Numbers, Truths, Texts, Codes, Flags}

-- The place of the text among these; 0 where it isn't one of them.
abbrev pub code_in : List (List ℕ) → List ℕ → ℕ
code_in texts bytes = unwrap_or (position (bytes_eq bytes) texts) 0

abbrev pub part_data : Part → Item → Data
part_data (Numbers t) = number_data t
part_data Truths = truth_data
part_data (Texts w) = text_data
part_data (Codes texts) = code_data (code_in texts.now)
part_data Flags = valid_data

-- The part is one of a column of the kind.
abbrev pub IsPartOf : Kind → Part → Type 0
IsPartOf k (Numbers t) = k ≡ kind.int t
IsPartOf k Truths = k ≡ kind.boolean
IsPartOf k (Texts w) = k ≡ kind.texts w
IsPartOf k (Codes texts) = k ≡ kind.dict
IsPartOf k Flags = ⊤

-- A value for each item follows.
abbrev pub AddsEach : (Item → Data) → List Item → List Token → List Token → Type 0
AddsEach value items old new = new ≡ old ++ flat_map (λ x. tokens_of (value x)) items

-- The columns of the kind have offsets.
abbrev pub is_sized : Kind → Bool
is_sized (kind.int t) = false
is_sized kind.boolean = false
is_sized (kind.texts w) = true
is_sized (kind.lists w k) = true
is_sized kind.dict = false

-- Where each slot begins.
abbrev pub starts_tokens : OffsetWidth → ℕ → List Item → List Token
starts_tokens w start [] = []
starts_tokens w start (x ∷ xs) = tokens_of (offset_data w start) ++ starts_tokens w (start + item_length x) xs

-- Columns of one kind.
abbrev pub AreOf : Kind → List Seen → Type 0
AreOf k columns = All (λ c. c.kind ≡ k) columns

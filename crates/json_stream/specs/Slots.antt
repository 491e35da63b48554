-- The member DATA of a column whose slots have a value each. (Arrow integration testing, "JSON test data format", FieldData)
use Rattle.std.specs.Prelude.{◌≡◌, ℕ, ◌<◌, List, [], ◌∷◌, ◌++◌, length, slice_get, Bool, false, true, Option, Some, None}
use Rattle.arrays.specs.Prelude.{Item, Kind, Seen}
use Rattle.arrays.specs.Kind.{int, boolean, texts, lists, dict}
use Rattle.json_read.specs.Prelude.{Coding, Data, Spelling, indices, overflows, slot_of, spelling_of}
use Rattle.json_stream.specs.Validity.{valid_of}

-- What the values of a column's slots spell: where it is encoded, the entries that they name.
abbrev pub spelling_at : Kind → Option Coding → Spelling
spelling_at k None = spelling_of k
spelling_at k (Some c) = indices c.index c.texts

-- The items, which the offsets count, are those of the values: null, or what a value spells whose slot is valid.
pub record AreSlots (s : Spelling) (validity : Option (List Bool)) (ds : List Data) (items : List Item) : Type 0 where
  pub len : length items ≡ length ds
  pub each : (i : ℕ) → i < length ds → slice_get items i ≡ slot_of s (valid_of validity i) (slice_get ds i)
  pub fits : overflows s items ≡ false

-- The item of one more slot follows, which is valid or not.
pub record IsSlotAdded (s : Spelling) (valid : Option Bool) (d : Data) (old new : List Item) : Type 0 where
  pub item : Item
  pub slot : slot_of s valid (Some d) ≡ Some item
  pub grown : new ≡ old ++ item ∷ []
  pub fits : overflows s old ≡ false → overflows s new ≡ false

-- Each slot of the kind has a value of its own.
abbrev pub is_slotwise : Kind → Bool
is_slotwise (int t) = true
is_slotwise boolean = true
is_slotwise (texts w) = true
is_slotwise (lists w k) = false
is_slotwise dict = false

-- Each slot of a column of the kind has: an index, where it is encoded.
abbrev pub is_slotted : Kind → Option Coding → Bool
is_slotted k None = is_slotwise k
is_slotted k (Some c) = true

-- An array of the kind that has these slots.
pub record HoldsSlots (k : Kind) (c : Option Coding) (validity : Option (List Bool)) (ds : List Data) (array : Seen) : Type 0 where
  pub slotted : is_slotted k c ≡ true
  pub kind : array.kind ≡ k
  pub slots : AreSlots (spelling_at k c) validity ds array.items

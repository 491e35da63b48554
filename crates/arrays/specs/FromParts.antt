-- What parts are and show, slot by slot (Arrow columnar format, "Physical memory layout").
use Rattle.std.specs.Prelude.{◌≡◌, ℕ, ◌<◌, List, [], ◌∷◌, map, true, Option, Some, None, option_map, if◌then◌else◌}
use Rattle.std.specs.List.{range_with_len}
use Rattle.std.specs.Str.{IsUtf8}
use Rattle.colbits.specs.Bit.{bit, bits}
use Rattle.types.specs.declared.int_type.IntType.{IntType}
use Rattle.layout.specs.Prelude.{Item, Reading, Seen, boolean, checked, int, is_valid_in, list, list_of, no_entries, null, read_parts, slot_at, text}
use Rattle.types.specs.declared.offset_width.OffsetWidth.{OffsetWidth}
use Rattle.types.specs.Kind as kind
use Rattle.types.specs.Prelude.{Kind, number_at}

-- A column of n slots: slot j holds value j where its bit of the validity is 1 or there is no validity, else null.
abbrev pub show_slots : Kind → ℕ → Option (List ℕ) → (ℕ → Item) → Seen
show_slots k n validity value = record {
  kind = k;
  validity = option_map (λ bytes. bits bytes 0 n) validity;
  items = map (λ j. if is_valid_in validity j then value j else null) (range_with_len 0 n);
  codes = [];
  entries = no_entries;
}

-- Little-endian numbers. ("Fixed-size primitive layout")
abbrev pub show_numbers : IntType → ℕ → Option (List ℕ) → List ℕ → Seen
show_numbers t n validity values = show_slots (kind.int t) n validity (λ j. int (number_at t values j))

-- Truth values, a bit each. ("Fixed-size primitive layout")
abbrev pub show_bits : ℕ → Option (List ℕ) → List ℕ → Seen
show_bits n validity packed = show_slots kind.boolean n validity (λ j. boolean (bit packed j))

-- The bytes of each valid slot are a text. What lies under a null is any bytes.
pub record AreTexts (w : OffsetWidth) (n : ℕ) (validity : Option (List ℕ)) (offsets bytes : List ℕ) : Type 0 where
  pub each : (j : ℕ) → j < n → is_valid_in validity j ≡ true → IsUtf8 (slot_at w offsets bytes j)

-- Texts. ("Variable-size binary layout")
abbrev pub show_texts : OffsetWidth → ℕ → Option (List ℕ) → List ℕ → List ℕ → Seen
show_texts w n validity offsets bytes = show_slots (kind.texts w) n validity (λ j. text (slot_at w offsets bytes j))

-- Lists over the items of a child, each from one offset up to the next. ("Variable-size list layout")
abbrev pub show_lists : OffsetWidth → ℕ → Option (List ℕ) → List ℕ → Seen → Seen
show_lists w n validity offsets child =
    show_slots (kind.lists w child.kind) n validity (λ j. list (list_of (slot_at w offsets child.items j)))

-- The parts of an array of lists over a child that is lawful: their fault, if there is one, and what they show.
abbrev pub list_parts : OffsetWidth → Kind → ℕ → Option (List ℕ) → List ℕ → Seen → Reading
list_parts w k n validity offsets child = read_parts (kind.lists w k) n None (validity ∷ Some offsets ∷ []) (checked child ∷ []) None

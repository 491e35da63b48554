-- What an array, a view and a dictionary show of themselves.
use Rattle.std.specs.Prelude.{ℕ, List, [], Bool, true, false, not, Option, Some, None, option_map, slice_index_or, count_by}
use Rattle.colbits.specs.Slice.{slice}
use Rattle.types.specs.Kind.{Kind}
use Rattle.layout.specs.Item.{Item}

-- The texts of a dictionary, doubles and nulls among them.
pub record Entries : Type 0 where
  pub validity : Option (List Bool)
  pub items : List Item

-- A column of a kind. The validity is of the slots, none where the bitmap is absent. The codes and the
-- entries are those of a dictionary-encoded column, else there are none.
pub record Seen : Type 0 where
  pub kind : Kind
  pub validity : Option (List Bool)
  pub items : List Item
  pub codes : List Item
  pub entries : Entries

abbrev pub no_entries : Entries
no_entries = record { validity = None; items = [] }

-- The n slots from place start on.
abbrev pub part : ℕ → ℕ → Seen → Seen
part start n s = record {
  kind = s.kind;
  validity = option_map (λ v. slice v start n) s.validity;
  items = slice s.items start n;
  codes = slice s.codes start n;
  entries = s.entries;
}

-- Whether slot i is valid, by the validity alone.
abbrev pub valid_in : Option (List Bool) → ℕ → Bool
valid_in None i = true
valid_in (Some bits) i = slice_index_or bits i false

abbrev pub valid_at : Seen → ℕ → Bool
valid_at s i = valid_in s.validity i

-- How many slots aren't valid, by the validity alone.
abbrev pub nulls_in : Option (List Bool) → ℕ
nulls_in None = 0
nulls_in (Some bits) = count_by not bits

abbrev pub null_count_of : Seen → ℕ
null_count_of s = nulls_in s.validity

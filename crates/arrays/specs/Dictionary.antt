-- Dictionary-encoded columns (Arrow columnar format, "Dictionary-encoded layout").
use Rattle.std.specs.Prelude.{ℕ, ◌&&◌, pos, int_lt, List, [], map, Bool, true, false, not, slice_index_or}
use Rattle.layout.specs.Prelude.{Entries, Item, Seen, int, no_entries, null}
use Rattle.types.specs.Kind as kind
use Rattle.types.specs.Prelude.{int32, is_negative, natural}

-- The entry that a code names, null where the code is null.
abbrev pub looked_up : List Item → Item → Item
looked_up entries (int z) = slice_index_or entries (natural z) null
looked_up entries code = null

-- The code is null, or names one of n entries.
abbrev pub is_code : ℕ → Item → Bool
is_code n null = true
is_code n (int z) = not (is_negative z) && int_lt z (pos n)
is_code n code = false

-- The texts of a dictionary, as its arrays show them.
abbrev pub entries_shown : Seen → Entries
entries_shown s = record { validity = s.validity; items = s.items }

-- What codes with a dictionary show.
abbrev pub encoded : Seen → Seen → Seen
encoded codes dictionary = record {
  kind = kind.dict;
  validity = codes.validity;
  items = map (looked_up dictionary.items) codes.items;
  codes = codes.items;
  entries = entries_shown dictionary;
}

-- The codes of a dictionary-encoded column, as a column of their own.
abbrev pub codes_of : Seen → Seen
codes_of s = record { kind = kind.int int32; validity = s.validity; items = s.codes; codes = []; entries = no_entries }

-- The texts of a dictionary, as a column of their own.
abbrev pub texts_alone : Entries → Seen
texts_alone e = record { kind = kind.utf8; validity = e.validity; items = e.items; codes = []; entries = no_entries }

-- The whole dictionary of a column.
abbrev pub dictionary_of : Seen → Seen
dictionary_of s = texts_alone s.entries

-- The same codes over another dictionary, in which each of them names the same text.
abbrev pub over : Seen → Seen → Seen
over s dictionary = record { kind = kind.dict; validity = s.validity; items = s.items; codes = s.codes; entries = entries_shown dictionary }

-- Parts that were checked.
use Rattle.std.specs.Prelude.{ℕ, List, map, length, Option, None, option_map}
use Rattle.types.specs.Kind.{Kind, utf8}
use Rattle.layout.specs.Layout.{Buffers}
use Rattle.layout.specs.Seen.{Seen}
use Rattle.layout.specs.Reading.{Reading, read_parts, reading}
use Rattle.layout.specs.declared.raw.RawArray.{RawArray}

-- An array that was checked, as the child of another.
abbrev pub checked : Seen → Reading
checked s = record { kind = s.kind; length = length s.items; fault = None; seen = s }

-- Texts that were checked, as the dictionary of an array.
abbrev pub checked_texts : Seen → Reading
checked_texts s = record { kind = utf8; length = length s.items; fault = None; seen = s }

-- An array of these parts, whose dictionary was checked.
abbrev pub read_checked : Kind → ℕ → Buffers → List RawArray → Option Seen → Reading
read_checked k n buffers children words = read_parts k n None buffers (map reading children) (option_map checked_texts words)

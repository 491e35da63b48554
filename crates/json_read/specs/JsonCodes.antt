-- Dictionary-encoded columns. (Arrow integration testing, "JSON test data format", FieldData; Arrow columnar format, "Dictionary-encoded layout")
use Rattle.std.specs.Prelude.{ℕ, ℤ, pos, negsuc, List, slice_get, Option, None, option_and_then}
use Rattle.arrays.specs.Prelude.{IntType, Item}
use Rattle.json_base.specs.Prelude.{Data, integer_of}
use Rattle.json_read.specs.JsonColumn.{Spelling, ReadsPlain}
use Rattle.json_base.specs.declared.fault.JsonFaultKind.TheVariants.{BadNumber}

-- The entry that an index names: none below 0 and past the last.
abbrev pub entry_at : List Item → ℤ → Option Item
entry_at entries (pos n) = slice_get entries n
entry_at entries (negsuc n) = None

-- Indices of the type spell the entries that they name.
abbrev pub indices : IntType → List Item → Spelling
indices t entries = record { spelled = λ d. option_and_then (entry_at entries) (integer_of t d); bad = BadNumber; offsets = None }

-- The column object of n indices.
abbrev pub ReadsCodes : IntType → List Item → ℕ → Data → List Item → Type 0
ReadsCodes t entries n d items = ReadsPlain (indices t entries) n d items

-- What stands at a cursor, or after spaces.
use Rattle.std.specs.Prelude.{ℕ, ◌<◌, ◌≤◌, List, length, drop}
use Rattle.json_read.specs.Prelude.{Data, array, no_items}
use Rattle.json_scan.specs.Spelling.{SpellsAt, before}
use Rattle.json_stream.specs.declared.cursor.Cursor.{Cursor}

-- The text has the value d there, and goes on at `end`.
abbrev pub HasAt : Cursor → Data → ℕ → Type 0
HasAt c d end = SpellsAt c.depth (drop c.at c.text.now) d (drop end c.text.now)

-- A value of which P holds.
abbrev pub HasValue : Cursor → ℕ → (Data → Type 0) → Type 0
HasValue c end P = (d : Data) × HasAt c d end × P d

-- An array of values of which P holds.
abbrev pub HasValues : Cursor → ℕ → (List Data → Type 0) → Type 0
HasValues c end P = (ds : List Data) × HasAt c (array (before ds no_items)) end × P ds

-- The place is behind the cursor, in its text.
abbrev pub IsBehind : Cursor → ℕ → Type 0
IsBehind c end = (c.at < end) × (end ≤ length c.text.now)

-- A column of the first texts of a pool.
use Rattle.std.specs.Prelude.{◌≡◌, ℕ, List, length, map, take}
use Rattle.arrays.specs.Prelude.{Seen, shown, text}
use Rattle.arrays.specs.Kind as kind

-- It has the first of the texts, and nothing else.
abbrev pub IsFront : List (List ℕ) → Seen → Type 0
IsFront texts column = column ≡ shown kind.utf8 (map text (take (length column.items) texts))

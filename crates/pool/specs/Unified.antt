-- Columns of texts brought to one dictionary.
use Rattle.std.specs.Prelude.{ℕ, List, map}
use Rattle.arrays.specs.Kind.{int}
use Rattle.arrays.specs.Prelude.{Seen, int32, joined_items, shown}
use Rattle.pool.specs.Texts.{firsts, texts_of}
use Rattle.pool.specs.Codes.{code_item}

-- The texts of all columns, in order of first appearance.
abbrev pub all_texts : List Seen → List (List ℕ)
all_texts views = firsts (texts_of (joined_items views))

-- The column of a column's codes among the texts.
abbrev pub codes_among : List (List ℕ) → Seen → Seen
codes_among texts v = shown (int int32) (map (code_item texts) v.items)

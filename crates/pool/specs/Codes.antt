-- The codes of items among texts.
use Rattle.std.specs.Prelude.{ℕ, pos, List, option_map}
use Rattle.arrays.specs.Prelude.{Item, item_of, null, text}
use Rattle.pool.specs.Texts.{place_of}

-- The place of a text among the texts, and null for what is no text.
abbrev pub code_item : List (List ℕ) → Item → Item
code_item texts (text t) = item_of (option_map pos (place_of texts t))
code_item texts _ = null

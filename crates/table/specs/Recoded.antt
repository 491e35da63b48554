-- A column of texts recoded after the texts that came before it.
use Rattle.std.specs.Prelude.{ℕ, ◌&&◌, ◌++◌, List, map, take, length, Bool, Option, Some, None, if◌then◌else◌}
use Rattle.std.specs.Arc.{arc_value}
use Rattle.std.specs.List.{enumerate_from, zip}
use Rattle.std.specs.declared.sync.Arc.{Arc}
use Rattle.std.specs.declared.alloc.Global.{Global}
use Rattle.arrays.specs.Prelude.{Seen, encoded, first, int32, is_recodable, shown, text}
use Rattle.arrays.specs.Kind as kind
use Rattle.pool.specs.Prelude.{code_item, firsts, is_too_full, texts_of}
use Rattle.std.specs.Bool.{then_some}
use Rattle.table.specs.declared.refusal.Refusal.{Refusal}
use Rattle.table.specs.declared.refusal.Refusal.TheVariants.{TextsFull}

-- The texts with those of the column, each once. Of a column that isn't one of texts, the texts alone.
abbrev pub grown : List (List ℕ) × Seen → List (List ℕ)
grown p = if is_recodable p.1.kind then firsts (p.0 ++ texts_of p.1.items) else p.0

-- Whether they are more than a dictionary holds.
abbrev pub is_past_dictionary : List (List ℕ) × Seen → Bool
is_past_dictionary p = is_recodable p.1.kind && is_too_full (grown p)

-- The dictionary of the texts, where the column is one of texts.
abbrev pub dictionary_for : List (List ℕ) × Seen → Option Seen
dictionary_for p = if is_recodable p.1.kind then Some (shown kind.utf8 (map text p.0)) else None

-- The column's items as codes among the texts.
abbrev pub coded : List (List ℕ) → Seen → Seen
coded texts c = encoded (shown (kind.int int32) (map (code_item texts) c.items)) (shown kind.utf8 (map text texts))

-- The column as it is stored.
abbrev pub stored_seen : List (List ℕ) × Seen → Seen
stored_seen p = if is_recodable p.1.kind then coded (grown p) p.1 else p.1

-- The least column with too many texts.
abbrev pub full_at : ℕ × (List (List ℕ) × Seen) → Option Refusal
full_at e = then_some (is_past_dictionary e.1) (TextsFull e.0)

unfoldable pub full_cause : List (List (List ℕ)) → List Seen → Option Refusal
full_cause texts columns = first (map full_at (enumerate_from 0 (zip texts columns)))

-- How many texts a dictionary has, 0 where there is none.
abbrev pub entry_count : Option (Arc Seen Global) → ℕ
entry_count None = 0
entry_count (Some words) = length (arc_value words).items

-- The first of the texts, as many as the dictionary has.
abbrev pub shortened : Option (Arc Seen Global) × List (List ℕ) → List (List ℕ)
shortened p = take (entry_count p.0) p.1

-- The dictionaries of a file: the texts of a column over all batches, each once, in order of first appearance.
use Rattle.std.specs.Prelude.{◌≡◌, ℕ, suc, List, [], ◌∷◌, Some, slice_get, slice_index_or}
use Rattle.std.specs.List.{flat_map}
use Rattle.arrays.specs.Prelude.{Batch, FieldShape, Item, Kind, kind_of_field, kinds_of}
use Rattle.arrays.specs.Kind.{dict}
use Rattle.pool.specs.Prelude.{firsts, texts_of, with_item}
use Rattle.json_base.specs.JsonTable.{Table}

-- The items of the column at the place.
abbrev pub column_at : ℕ → Table → List Item
column_at place t = slice_index_or t.columns place []

-- The same over all tables, one behind the other.
abbrev pub column_items : ℕ → List Table → List Item
column_items place tables = flat_map (column_at place) tables

-- The dictionary of a column of the kind: others than dictionary-encoded ones have none.
abbrev pub dictionary_of : Kind → List Item → List (List ℕ)
dictionary_of dict items = firsts (texts_of items)
dictionary_of k items = []

-- A dictionary for each field, from the place on.
abbrev pub dictionaries_from : ℕ → List FieldShape → List Table → List (List (List ℕ))
dictionaries_from place [] tables = []
dictionaries_from place (f ∷ fields) tables = dictionary_of (kind_of_field f) (column_items place tables) ∷ dictionaries_from (suc place) fields tables

-- ---- in the making

abbrev pub with_items : List (List ℕ) → List Item → List (List ℕ)
with_items texts [] = texts
with_items texts (x ∷ xs) = with_items (with_item texts x) xs

-- The field at the place is dictionary-encoded.
abbrev pub IsEncodedAt : ℕ → Batch → Type 0
IsEncodedAt place b = slice_get (kinds_of b.fields) place ≡ Some dict

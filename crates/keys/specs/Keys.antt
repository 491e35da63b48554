-- The keys of rows, and the ids of their groups: the places of these keys among all.
use Rattle.std.specs.Prelude.{ℕ, List, Some, map, slice_index_or, ◌≡◌, fold, slice_get}
use Rattle.arrays.specs.Prelude.{Item, Row, Seen, null, row_of}
use Rattle.keys.specs.Same.{same_key}
use Rattle.keys.specs.declared.columns.KeyColumns.{KeyColumns}
use Rattle.indexmap.specs.IndexSet.{insert_key}

-- The items of a row in these columns.
abbrev pub key_of : List ℕ → Row → List Item
key_of by row = map (λ c. slice_index_or row c null) by

-- The keys of these rows.
abbrev pub keys_at : List ℕ → List Seen → List ℕ → List (List Item)
keys_at by columns rows = map (λ r. key_of by (row_of columns r)) rows

abbrev pub key_in : KeyColumns → ℕ → List Item
key_in k r = key_of k.by.now (row_of k.batch.now.columns r)

abbrev pub keys_in : KeyColumns → List ℕ → List (List Item)
keys_in k rows = keys_at k.by.now k.batch.now.columns rows

-- Each one at the end where it is new.
abbrev pub with_keys : List (List Item) → List (List Item) → List (List Item)
with_keys keys more = fold (insert_key same_key) keys more

-- Each id is the place of its key among the keys.
abbrev pub AreIds : List (List Item) → List (List Item) → List ℕ → Type 0
AreIds keys wanted ids = map (slice_get keys) ids ≡ map (λ k. Some k) wanted

-- What is remembered of the ids of keys.
use Rattle.std.specs.Prelude.{◌≡◌, ◌<◌, ℕ, List, [], ◌∷◌, Option, Some, None, length, slice_get, slice_index_or, ⊤}
use Rattle.indexmap.specs.IndexSet.{insert_key}
use Rattle.arrays.specs.Prelude.{Batch, Item, Seen, null, row_of}
use Rattle.arrays.specs.Kind as kind
use Rattle.keys.specs.Keys.{key_of}
use Rattle.keys.specs.Same.{same_key}
use Rattle.keys.specs.declared.memo.Memo.{Memo}

-- The id, if there is one, is that of this key.
abbrev pub IsRemembered : List (List Item) → List Item → Option ℕ → Type 0
IsRemembered keys k None = ⊤
IsRemembered keys k (Some n) = slice_get keys n ≡ Some k

-- What is remembered of the entries of a dictionary is true, and there is room for each.
pub record KnowsItems (keys : List (List Item)) (items : List Item) (known : List (Option ℕ)) : Type 0 where
  pub room : length items ≡ length known
  pub each : (c : ℕ) → IsRemembered keys (slice_index_or items c null ∷ []) (slice_index_or known c None)

-- What is remembered of null is true, whatever batch it came in.
pub record Remembers (keys : List (List Item)) (m : Memo) : Type 0 where
  pub null : IsRemembered keys (null ∷ []) m.null

-- It is these entries of which something is remembered, and it is true.
abbrev pub Knows : List (List Item) → List Item → Memo → Type 0
Knows keys items m = KnowsItems keys items m.entries.items

-- The same of the entries of a batch's dictionary, where its rows are put into groups by one dictionary-encoded column.
pub record KnowsEntries (keys : List (List Item)) (b : Batch) (by : List ℕ) (m : Memo) : Type 0 where
  pub each : (place : ℕ) (c : Seen) → by ≡ place ∷ [] → slice_get b.columns place ≡ Some c → c.kind ≡ kind.dict → Knows keys c.entries.items m

-- Each row of the batch has the key of its item in this column alone.
pub record AreKeys (items : List Item) (b : Batch) (by : List ℕ) : Type 0 where
  pub len : length items ≡ b.rows
  pub each : (r : ℕ) → r < b.rows → key_of by (row_of b.columns r) ≡ slice_index_or items r null ∷ []

-- The key is one of them now, at the end where it is new, and this is its id.
pub record IsInterned (keys new : List (List Item)) (k : List Item) (n : ℕ) : Type 0 where
  pub keys_are : new ≡ insert_key same_key keys k
  pub there : slice_get new n ≡ Some k

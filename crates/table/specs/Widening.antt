-- What a table holds with a column more, which is null in each row that is there.
use Rattle.std.specs.Prelude.{◌≡◌, ◌∷◌, ◌++◌, [], ℕ, List, map, replicate, Option, Some, None, if◌then◌else◌}
use Rattle.std.specs.Arc.{arc_value}
use Rattle.std.specs.List.{AllZip, zip}
use Rattle.arrays.specs.Prelude.{Batch, FieldShape, Kind, Seen, kind_of_field, null, nulls, same_kind, shown}
use Rattle.arrays.specs.Kind as kind
use Rattle.answers.specs.Prelude.{AreSame, AreStats, ColumnStats}
use Rattle.table.specs.Storage.{batches_of, book_of, dictionaries_in, pieces_in}
use Rattle.table.specs.declared.storage.Storage.{Storage}

-- The batch with a column of nulls behind the others.
abbrev pub with_nulls : FieldShape → Batch → Batch
with_nulls f b = record {
  fields = b.fields ++ f ∷ [];
  rows = b.rows;
  columns = b.columns ++ nulls (kind_of_field f) b.rows ∷ [];
}

-- The second has what the first says, and behind it the statistics of so many nulls of the kind.
pub record AreWider (k : Kind) (rows : ℕ) (before after : List ColumnStats) : Type 0 where
  pub front : List ColumnStats
  pub added : ColumnStats
  pub whole : after ≡ front ++ added ∷ []
  pub same : AllZip AreSame front before
  pub nulls : AreStats added k (replicate rows null)

-- The dictionary of a column of the kind without texts.
abbrev pub no_texts : Kind → Option Seen
no_texts k = if same_kind k kind.dict then Some (shown kind.utf8 []) else None

-- The statistics of batches, each with those of its nulls.
abbrev pub AreAllWider : Kind → List Batch → List (List ColumnStats) → List (List ColumnStats) → Type 0
AreAllWider k batches before after = AllZip (λ p s. AreWider k p.0.rows p.1 s) (zip batches before) after

-- The second is the first with the field behind the others.
pub record IsWider (f : FieldShape) (h other : Storage) : Type 0 where
  pub schema : arc_value other.schema ≡ arc_value h.schema ++ f ∷ []
  pub rows : other.rows ≡ h.rows
  pub batches : batches_of other ≡ map (with_nulls f) (batches_of h)
  pub pieces : AreAllWider (kind_of_field f) (batches_of h) (pieces_in h) (pieces_in other)
  pub stats : AreWider (kind_of_field f) h.rows (arc_value h.stats).items (arc_value other.stats).items
  pub dictionaries : dictionaries_in other ≡ dictionaries_in h ++ no_texts (kind_of_field f) ∷ []
  pub book : book_of other ≡ book_of h

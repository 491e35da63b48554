-- The texts of a dictionary, as far as they are read. (Arrow integration testing, "JSON test data format", DictionaryBatch)
use Rattle.std.specs.Prelude.{◌≡◌, List, [], ◌∷◌, Option, Some, None}
use Rattle.arrays.specs.Prelude.{Seen, utf8}
use Rattle.json_read.specs.Prelude.{Data, ReadsTexts}

-- An array of the texts of a batch object.
pub record IsBatchOfTexts (d : Data) (a : Seen) : Type 0 where
  pub kind : a.kind ≡ utf8
  pub reads : ReadsTexts d a.items

-- The values so far are the batch of the texts alone, or there are none.
abbrev pub AreAlone : List Data → Option Seen → Type 0
AreAlone ds None = ds ≡ []
AreAlone ds (Some a) = (d : Data) × (ds ≡ d ∷ []) × IsBatchOfTexts d a

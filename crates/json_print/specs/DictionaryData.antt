-- The dictionaries of a file as values. (Arrow integration testing, "JSON test data format", DictionaryBatch)
use Rattle.std.specs.Prelude.{ℕ, suc, List, ◌∷◌, codes, length, map}
use Rattle.arrays.specs.Prelude.{FieldShape, Item, Narrow, Shape, field, text}
use Rattle.arrays.specs.Shape as shape
use Rattle.json_base.specs.Prelude.{Data, Items, item, member, no_items, no_members, object}
use Rattle.json_print.specs.BatchData.{batch_object}
use Rattle.json_print.specs.ColumnData.{text_column}
use Rattle.json_print.specs.Written.{natural}

abbrev pub text_items : List (List ℕ) → List Item
text_items texts = map text texts

-- A batch of one column, named as the field, of the texts, with offsets of 32 bits.
abbrev pub text_batch : List ℕ → List (List ℕ) → Data
text_batch name texts = batch_object (item (text_column Narrow name (text_items texts)) no_items) (length texts)

abbrev pub entry_data : ℕ → List ℕ → List (List ℕ) → Data
entry_data id name texts = object (member (codes "data") (text_batch name texts) (member (codes "id") (natural id) no_members))

-- The entry of a dictionary-encoded field before others.
abbrev pub with_entry : ℕ → Shape → List ℕ → List (List ℕ) → Items → Items
with_entry id (shape.int t) name texts others = others
with_entry id shape.boolean name texts others = others
with_entry id (shape.texts w) name texts others = others
with_entry id (shape.lists w f) name texts others = others
with_entry id shape.dict name texts others = item (entry_data id name texts) others

abbrev pub with_field : ℕ → FieldShape → List (List ℕ) → Items → Items
with_field id (field name nullable ty) texts others = with_entry id ty name texts others

-- An entry for each dictionary-encoded field in order, from the place on.
abbrev pub entries_data : ℕ → List (List (List ℕ)) → List FieldShape → Items
entries_data place (texts ∷ dictionaries) (f ∷ fields) = with_field place f texts (entries_data (suc place) dictionaries fields)
entries_data place dictionaries fields = no_items

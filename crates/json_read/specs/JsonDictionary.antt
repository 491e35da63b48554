-- The dictionaries of a file. (Arrow integration testing, "JSON test data format", DictionaryBatch)
use Rattle.std.specs.Prelude.{◌≡◌, ℕ, List, Some, option_and_then}
use Rattle.arrays.specs.Prelude.{Item, Narrow}
use Rattle.json_base.specs.Prelude.{Data, as_array, count_of, item, member_of, no_items}
use Rattle.json_read.specs.JsonSchema.{only_item}
use Rattle.json_read.specs.JsonColumn.{ReadsPlain, texts}
use Rattle.json_base.specs.declared.path.Member.TheVariants as member

-- A batch object with one column, of texts as utf8 has them.
pub record ReadsTexts (d : Data) (items : List Item) : Type 0 where
  pub n : ℕ
  pub count : option_and_then count_of (member_of member.Count d) ≡ Some n
  pub column : Data
  pub columns : option_and_then as_array (member_of member.Columns d) ≡ Some (item column no_items)
  pub reads : ReadsPlain (texts Narrow) n column items

-- Such a batch object, or an array of exactly one.
pub data WrapsTexts (d : Data) (items : List Item) : Type 0 where
  bare : ReadsTexts d items → WrapsTexts d items
  wrapped : (batch : Data) → only_item d ≡ Some batch → ReadsTexts batch items → WrapsTexts d items

-- The entry of a dictionary of the texts.
pub record ReadsEntry (d : Data) (items : List Item) : Type 0 where
  pub wrapper : Data
  pub at_wrapper : member_of member.Texts d ≡ Some wrapper
  pub reads : WrapsTexts wrapper items

-- The words of keys that contracts and proofs name most.
pub use Rattle.keys.specs.Keys.{AreIds, key_of, keys_at, with_keys}
pub use Rattle.keys.specs.Memo.{AreKeys, IsInterned, IsRemembered, Knows, KnowsEntries, KnowsItems, Remembers}
pub use Rattle.keys.specs.PartSets.{one, part_of_code, parts_of_code, parts_shown, parts_stored, same_parts}
pub use Rattle.keys.specs.Parts.{AreWithin, IsWithin, item_of_part, key_of_parts, keys_shown, same_part}
pub use Rattle.keys.specs.Same.{firsts, same_item, same_key}
pub use Rattle.keys.specs.Texts.{named_texts}

-- The words of json_stream that contracts and proofs name most.
pub use Rattle.json_stream.specs.Batch.{HasMembers, HoldsBatch, IsColumns}
pub use Rattle.json_stream.specs.Column.{HoldsParts, IsCountMember, IsValues, StandsOn}
pub use Rattle.json_stream.specs.Columns.{AreReadColumns}
pub use Rattle.json_stream.specs.Cursor.{HasValue, IsBehind}
pub use Rattle.json_stream.specs.Field.{coding_in, kind_in}
pub use Rattle.json_stream.specs.Lists.{HoldsChild, HoldsChildMember, HoldsLists, HoldsOnlyChild, IsOnStretch, array_of_one}
pub use Rattle.json_stream.specs.Offsets.{AreSpelledOffsets, IsOffsets}
pub use Rattle.json_stream.specs.Slots.{AreSlots, HoldsSlots, IsSlotAdded, is_slotted, is_slotwise, spelling_at}
pub use Rattle.json_stream.specs.Validity.{IsValidity, valid_of}

-- The words of select that contracts and proofs name most.
pub use Rattle.select.specs.Children.{AreChildren, IsChild, IsInner, IsList}
pub use Rattle.select.specs.Chosen.{chosen}
pub use Rattle.select.specs.Fault.{IsFull, IsSelectFault, of_build}
pub use Rattle.select.specs.Joined.{IsEncoded, concat_fault, is_content_too_big, is_joined_too_big, joined, kind_of_first}
pub use Rattle.select.specs.Masked.{AreTrue}
pub use Rattle.select.specs.Named.{NameRows, index_at, row_named, rows_named}
pub use Rattle.select.specs.Picked.{IsPick, first_rows, is_row, picked, picked_at, rows_of_ones}
unfoldable pub use Rattle.select.specs.Picked.{rows_where}
pub use Rattle.select.specs.Ranges.{rows_of}
pub use Rattle.select.specs.Selection.{filter_fault, indices_fault, is_true, kept, outside, take_fault, taken}
pub use Rattle.select.specs.Stored.{AreStored, is_stored}
pub use Rattle.select.specs.Texts.{AreOffsetsOf, all_bytes, bytes_in, is_valid, text_size}

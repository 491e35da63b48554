-- The words of this crate's contracts.
pub mod Cursor
pub mod Validity
pub mod Field
pub mod Slots
pub mod Column
pub mod Offsets
pub mod Lists
pub mod Columns
pub mod Batch
pub mod Prelude

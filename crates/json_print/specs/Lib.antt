-- The words of this crate's contracts.
pub mod Written
pub mod SchemaData
pub mod ColumnData
pub mod Slots
pub mod BatchData
pub mod Dictionaries
pub mod DictionaryData
pub mod Text
pub mod Plain
pub mod Fits
pub mod Prelude

-- What the laws rest on.
pub mod FileFits
pub mod ReadNumbers
pub mod ReadSlots
pub mod ReadOffsets
pub mod ReadLists
pub mod ReadColumns
pub mod ReadEach
pub mod ReadSchema
pub mod Utf8
pub mod ReadCodes
pub mod ReadCatalog
pub mod Utf8Documents
pub mod ReadFile
pub mod WholeFields
pub mod WholeTables

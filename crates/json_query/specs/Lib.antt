-- The words of this crate's contracts.
pub mod Reading
pub mod QueryForm
pub mod QueryExpr
pub mod QueryDocument
pub mod QueryDocumentFault
pub mod QueryData
pub mod Prelude

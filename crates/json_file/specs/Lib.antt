-- The words of this crate's contracts.
pub mod Texts
pub mod Dictionary
pub mod Catalog
pub mod Batches
pub mod Document
pub mod Prelude

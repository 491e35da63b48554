-- The words of this crate's contracts.
pub mod Types
pub mod Result
pub mod Cell
pub mod Prelude

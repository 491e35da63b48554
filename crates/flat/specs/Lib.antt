-- The words of this crate's contracts.
pub mod Format
pub mod Content
pub mod Fields
pub mod Parts
pub mod Schema
pub mod Batch
pub mod Lent
pub mod Named
pub mod Prelude

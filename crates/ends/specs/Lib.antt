-- The words of this crate's contracts.
pub mod Count
pub mod Line
pub mod Memory
pub mod Sink
pub mod Source
pub mod Prelude

pub mod Plan
pub mod Loaded
pub mod Report
pub mod Prelude

-- What the contracts of this crate speak of.
pub mod Neighbours
pub mod Under
pub mod Sizes
pub mod Fronts
pub mod Columns
pub mod Statistics
pub mod Prelude

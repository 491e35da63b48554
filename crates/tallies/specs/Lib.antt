-- What the contracts of this crate speak of.
pub mod Picked
pub mod Spread
pub mod Totals
pub mod Tallies
pub mod Ends
pub mod Columns
pub mod Kinds
pub mod Merging
pub mod Prelude

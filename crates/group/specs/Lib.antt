-- What the contracts of this crate speak of.
pub mod Stats
pub mod Numbers
pub mod Tally
pub mod Summary
pub mod Joined
pub mod Bounds
pub mod StatsOfColumns
pub mod Scalars
pub mod Prelude

-- What the contracts of this crate speak of.
pub mod Tree
pub mod FaultText
pub mod Sorts
pub mod Checked
pub mod CalledColumns
pub mod QueryShape
pub mod FirstFault
pub mod Resolved
pub mod Named
pub mod Prelude

-- The words of this crate's contracts.
pub mod FaultLine
pub mod FaultText
pub mod Follows
pub mod Handle
pub mod Lent
pub mod Slot
pub mod Status
pub mod Prelude

-- The words of this crate's contracts.
pub mod Output
pub mod Loaded
pub mod Column
pub mod TookFault
pub mod Run
pub mod QueryFile
pub mod Wanted
pub mod Worked
pub mod Prelude

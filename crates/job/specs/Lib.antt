-- The words of this crate's contracts.
pub mod CommandLine
pub mod Jobs
pub mod Printed
pub mod Prelude

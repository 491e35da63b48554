-- The words of this crate's contracts.
pub use Rattle.ends.specs.Line
pub mod Shown
pub mod Csv
pub mod GroupLines
pub mod Rows
pub mod Queried
pub mod Exported
pub mod Fields
pub mod FileBatches
pub mod Lines
pub mod FaultLine
pub mod OrMemory
pub mod Parsed
pub mod QueryFaults
pub mod Prelude

-- The words of this crate's contracts.
pub use Rattle.table.specs.History
pub use Rattle.table.specs.declared.add_fault.AddFault.TheVariants as AddFaults
pub use Rattle.table.specs.declared.refusal.Refusal.TheVariants as Refusals
pub mod Loaded
pub mod Refused
pub mod Answer
pub mod Output
pub mod Prelude

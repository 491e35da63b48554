-- The words of this crate's contracts.
pub use Rattle.flat.specs.declared.fault.FlatFault.TheVariants as FlatFaults
pub mod Filling
pub mod Prelude

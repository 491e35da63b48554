-- The words of what users name of the crates json_*.
pub use Rattle.json_base.specs.JsonTable
pub use Rattle.json_base.specs.contracts.fault.JsonFault as JsonFaultContract
pub use Rattle.json_base.specs.declared.fault.JsonFaultKind.TheVariants as JsonFaultKinds
pub use Rattle.json_read.specs.JsonFile
pub mod Prelude

pub use Rattle.table.specs.Contents
pub use Rattle.table.specs.FirstFault
pub use Rattle.table.specs.QueryShape
pub use Rattle.table.specs.declared.refusal.Refusal.TheVariants as Refusals
pub use Rattle.histories.specs.declared.naming.Naming
pub mod Code
pub mod Known
pub mod Changes
pub mod Left
pub mod Named
pub mod Showing
pub mod Parts
pub mod Hand
pub mod Missing
pub mod Balance
pub mod Gathered
pub mod Opened
pub mod Prelude

-- The words of this crate's contracts.
pub use Rattle.serde_json.specs.Data
pub use Rattle.serde_json.specs.Events
pub use Rattle.serde_json.specs.Find
pub use Rattle.serde_json.specs.Read
pub use Rattle.serde_json.specs.View
pub mod JsonPath
pub mod FaultAt
pub mod JsonFaultText
pub mod JsonMember
pub mod JsonNumber
pub mod JsonTable
pub mod Prelude

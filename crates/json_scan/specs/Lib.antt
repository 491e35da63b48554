-- The words of this crate's contracts.
pub use Rattle.json.specs.Json
pub mod Spelling
pub mod Scalars
pub mod Member
pub mod Prelude

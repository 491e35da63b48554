-- What the proofs of this crate share, and those above it cite.
pub use Rattle.serde_json.proofs.Numbers
pub use Rattle.serde_json.proofs.Texts
pub use Rattle.serde_json.proofs.Views
pub mod JsonNumbers
pub mod JsonTells
pub mod JsonItems
pub mod JsonResults
pub mod MemberLaws
pub mod FaultSending

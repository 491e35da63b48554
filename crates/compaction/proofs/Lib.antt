-- What the proofs of this crate share.
pub use Rattle.select.proofs.ChosenLemmas
pub mod FitLemmas
pub mod GroupLemmas
pub mod SizeLemmas
pub mod BatchLemmas
pub mod FrontLemmas
pub mod JoiningLemmas
pub mod JoinedLemmas
pub mod StatisticsLemmas
pub mod CompactingLemmas

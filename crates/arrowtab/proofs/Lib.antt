-- What the proofs of this crate share.
pub use Rattle.loads.proofs.PlanLemmas
pub use Rattle.reports.proofs.ParseLemmas
mod SendingLemmas
mod ReadLemmas
mod WorkedLemmas
mod AnswerLemmas
mod RunLemmas
mod TogetherLemmas
mod SettledLemmas
mod OneLemmas
mod QueryFileLemmas

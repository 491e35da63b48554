-- What the proofs of this crate share.
pub mod PlanLemmas
pub mod LoadLemmas
pub mod RunLemmas
pub mod SendingLemmas

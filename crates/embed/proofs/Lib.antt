-- What the proofs of this crate share.
pub use Rattle.table.proofs.SendingLemmas
mod LoadLemmas

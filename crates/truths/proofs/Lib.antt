-- What the proofs of this crate share, and those above it cite.
pub mod TruthLemmas

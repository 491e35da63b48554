-- What the proofs of this crate share.
mod Readings
mod QueryReadings
mod QueryDataLemmas

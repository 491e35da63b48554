-- What the proofs of this crate share.
pub mod ColumnLemmas
pub mod TallyLemmas
pub mod SpreadLemmas
pub mod MergedLemmas

-- What the proofs of this crate share.
pub mod NullLemmas
pub mod ComparisonLemmas
pub mod KleeneLemmas
pub mod PackedLemmas
pub mod NumberLemmas
pub mod CheckedLemmas
pub mod ResultLemmas
pub mod BesideLemmas
pub mod RowLemmas

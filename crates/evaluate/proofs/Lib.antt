-- What the proofs of this crate cite.
pub mod PlaceLemmas
pub mod SortLemmas
pub mod OperatorLemmas
pub mod ColumnLemmas
pub mod FilterLemmas
pub mod TreeLemmas
pub mod BesideLemmas
pub mod RowLemmas

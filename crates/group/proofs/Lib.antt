-- What the proofs of this crate share.
pub mod TallyLemmas
pub mod NullLemmas
pub mod SumLemmas
pub mod JoinedStats
pub mod NumberLemmas
pub mod BoundLemmas
pub mod StatsSending
pub mod ColumnsLemmas

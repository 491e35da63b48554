-- What the proofs of this crate share.
pub mod SameLemmas
pub mod PartLemmas
pub mod TextLemmas
pub mod CodeSetLemmas
pub mod PartSetLemmas
pub mod KeyLemmas
pub mod MemoLemmas

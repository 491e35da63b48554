-- What the proofs of this crate share.
pub mod TextLemmas
pub mod PlaceLemmas
pub mod PlacingLemmas
pub mod CodedLemmas
pub mod PoolLemmas
pub mod RecodeLemmas
pub mod UnifyLemmas
pub mod FrontLemmas
pub mod PrefixLemmas
pub mod SendingLemmas

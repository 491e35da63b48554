-- What the proofs of this crate share.
pub mod PickLemmas
pub mod RestLemmas
pub mod OnesLemmas
pub mod BitsLemmas
pub mod BigLemmas
pub mod SelectionLemmas
pub mod ListLemmas
pub mod ChosenLemmas
pub mod GatherLemmas
pub mod TextLemmas
pub mod JoinLemmas
pub mod JoinedCodes
pub mod SizeLemmas
pub mod StoredLemmas
pub mod WordLemmas
pub mod JoinedNumbers
pub mod NamedLemmas

-- What the proofs of this crate share.
pub mod Naturals
pub mod Numerals
pub mod Flags
pub mod SlotLemmas
pub mod CodeLemmas
pub mod ColumnLemmas
pub mod ListLemmas
pub mod BatchLemmas
pub mod ReadBatches

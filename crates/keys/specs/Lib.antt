-- What the contracts of this crate speak of.
pub mod Same
pub mod Keys
pub mod Parts
pub mod Texts
pub mod CodeSets
pub mod PartSets
pub mod Memo
pub mod Prelude

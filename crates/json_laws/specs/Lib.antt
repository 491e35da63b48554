-- The words of this crate's laws.
pub mod IsFile

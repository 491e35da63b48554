-- What the proofs of this crate share, and those of the crates above.
mod ReportLemmas
mod ExportLemmas
mod JoinLemmas
mod RowLemmas
pub mod FileLemmas
pub mod ParseLemmas
pub mod FaultLemmas

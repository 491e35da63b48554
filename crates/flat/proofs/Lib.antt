-- Lemmas of this crate.
pub mod ContentLemmas
pub mod CodeLemmas
pub mod FieldLemmas
pub mod RowLemmas
pub mod ColumnLemmas
pub mod UniqueLemmas
pub mod AgainLemmas
pub mod LentLemmas
pub mod NamedLemmas

-- Lemmas of this crate.
mod ColumnLemmas
mod TypeLemmas

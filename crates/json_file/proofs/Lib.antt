-- What the proofs of this crate share.
pub mod BatchesRead
pub mod TextLemmas
pub mod DictionaryLemmas
pub mod CatalogLemmas
pub mod DocumentLemmas
pub mod HeadLemmas
pub mod SyntaxLemmas

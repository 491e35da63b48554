pub mod ShapeLemmas
pub mod SchemaLemmas
pub mod EncodingLemmas
pub mod ByteLemmas
pub mod IntegerLemmas
pub mod RangeLemmas
pub mod FirstLemmas
pub mod SendingLemmas

-- What the proofs of this crate share.
pub use Rattle.json.proofs.Found
pub mod Steps
pub mod Shapes
pub mod Ranges
pub mod Items
pub mod Batches
pub mod Texts
pub mod Printed
pub mod ReadBack
pub mod Columns
pub mod PlainColumns
pub mod PlainSchemas
pub mod PlainBatches
pub mod Depths
pub mod PlainDocuments

pub mod Bit
pub mod Bitmap
pub mod Building
pub mod Padding
pub mod Slice
pub mod Prelude

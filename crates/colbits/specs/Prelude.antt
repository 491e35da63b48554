-- The words of colbits that contracts and proofs name most.
pub use Rattle.colbits.specs.Bit.{bit_in}
unfoldable pub use Rattle.colbits.specs.Bit.{bit, bits}
pub use Rattle.colbits.specs.Bitmap.{IsBitmap, IsBitmapOf, bit_of}
pub use Rattle.colbits.specs.Building.{AreWords}
unfoldable pub use Rattle.colbits.specs.Building.{first_bits}
pub use Rattle.colbits.specs.Slice.{slice}

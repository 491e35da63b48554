-- The words of pool that contracts and proofs name most.
pub use Rattle.pool.specs.Codes.{code_item}
pub use Rattle.pool.specs.Front.{IsFront}
pub use Rattle.pool.specs.Places.{AreKnown, IsKnown, IsPlaced, with_item}
pub use Rattle.pool.specs.Pool.{IsPool}
pub use Rattle.pool.specs.Texts.{byte_count, firsts, is_among, is_once, is_too_full, place_of, text_of, texts_of, with_text}
pub use Rattle.pool.specs.Unified.{all_texts, codes_among}

-- The words of results that contracts and proofs name most.
pub use Rattle.results.specs.Cell.{only_of}
pub use Rattle.results.specs.Result.{decimal_text, is_of, item_at, kind_of_type, result_batch, result_column}
pub use Rattle.results.specs.Types.{result_types}

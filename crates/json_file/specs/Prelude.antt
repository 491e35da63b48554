-- The words of json_file that contracts and proofs name most.
pub use Rattle.json_file.specs.Batches.{AreBatches}
pub use Rattle.json_file.specs.Catalog.{AreCodedBy, HavePlaces}
pub use Rattle.json_file.specs.Dictionary.{AreEntries, ids_in}
pub use Rattle.json_file.specs.Document.{HoldsDocument, HoldsFile, IsFileAt, StandsAt}

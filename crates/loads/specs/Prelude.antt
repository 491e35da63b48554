-- The words of loads that contracts and proofs name most.
pub use Rattle.loads.specs.Loaded.{AllLoaded, AreRun, HasAppended, HasLast, IsIdle, IsRun, IsStoppedAt, Loaded, StandsFor, Stop, batches_of_files, before_stop, fields_for, outcome_of, pairs_of, seen_since}
pub use Rattle.loads.specs.Plan.{planned}
pub use Rattle.loads.specs.Report.{AllFinished, AreNewest, IsLeastReported, IsLeastStopOf, IsWantOfMemory, StandsAgainstLoading, last_receipts}

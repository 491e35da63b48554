-- The words of job that contracts and proofs name most.
pub use Rattle.job.specs.CommandLine.{arrowtab}
pub use Rattle.job.specs.Jobs.{Asks, Finds, FindsInputTwice, FindsNone, FindsQuery, HasNoOutput, HasNoQuery, HasNoWorkers, HasNumber, HasOwn, HasTwoQueries, HasWorkers, IsFaultOf, IsNumber, IsUnfound, RefusesWords, word_of}

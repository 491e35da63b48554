-- The words of embed that contracts and proofs name most.
pub use Rattle.embed.specs.Answer.{PrintsAnswer, StopsAnswer}
pub use Rattle.table.specs.Compacted.{IsCompacted}
pub use Rattle.table.specs.Contents.{Contents}
pub use Rattle.reports.specs.Exported.{exported}
pub use Rattle.table.specs.Lawful.{IsStored, NamesFronts}
pub use Rattle.reports.specs.Line.{message}
pub use Rattle.embed.specs.Loaded.{AddsAll, HoldsFiles, added, all_batches}
pub use Rattle.embed.specs.Output.{AreLoadable, IsAnswered, IsExport, IsQueryRefused, IsQueryText, IsSchema, IsStats, OfTable, StopsQuery, line_of_fault}
pub use Rattle.embed.specs.Refused.{IsBatchRefused, StopsFiles, StopsReading, StopsTexts}
pub use Rattle.reports.specs.declared.run_fault.RunFault.{RunFault}
pub use Rattle.reports.specs.declared.run_fault.RunFault.TheVariants.{NoMemory}
pub use Rattle.reports.specs.Shown.{stats_text}

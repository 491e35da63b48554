-- The words of arrowtab that contracts and proofs name most.
pub use Rattle.table.specs.Cause.{difference}
pub use Rattle.arrowtab.specs.Column.{IsColumn, IsColumnRead, IsColumnRefused, IsColumnUnread, IsWith, RefusesColumn, column_text, fields_with, history_with}
pub use Rattle.reports.specs.FileBatches.{FileBatch, batch_tables, batches_with_fields, table_fields}
pub use Rattle.table.specs.History.{History}
pub use Rattle.arrow_json.specs.JsonFile.{Reads}
pub use Rattle.arrow_json.specs.JsonTable.{FileData}
pub use Rattle.arrowtab.specs.Loaded.{IsLoaded, IsStopped, added_by}
pub use Rattle.reports.specs.OrMemory.{OrMemory}
pub use Rattle.arrowtab.specs.Output.{Prints, PrintsNothing}
pub use Rattle.loads.specs.Plan.{planned}
pub use Rattle.reports.specs.Queried.{RefusesGroups}
pub use Rattle.arrowtab.specs.QueryFile.{HasRead, UnreadQuery, error_failed, no_memory, source_failed}
pub use Rattle.table.specs.declared.refusal.Refusal.{Refusal}
pub use Rattle.arrowtab.specs.Run.{Answers, AreLoaded, AreRead, Excuse, Explains, FailedRead, GiveFiles, Inputs, IsFirst, IsOfFiles, IsQueryRead, OfJob, Refuses, RefusesQuery, front}
pub use Rattle.reports.specs.declared.run_fault.RunFault.{RunFault}
pub use Rattle.arrays.specs.Shape.{FieldShape}
pub use Rattle.arrowtab.specs.TookFault.{IsOfFile, TookFault, built, not_built}
pub use Rattle.arrowtab.specs.Wanted.{IsUnprinted, IsUnread, IsWanted, PrintsWanted}
pub use Rattle.arrowtab.specs.Worked.{Holds, IsFileRefused, IsGathered, listed}

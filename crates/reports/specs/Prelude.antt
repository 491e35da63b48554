-- The words of reports that contracts and proofs name most.
pub use Rattle.reports.specs.Exported.{exported}
pub use Rattle.reports.specs.FaultLine.{line_under}
pub use Rattle.reports.specs.Fields.{schema_line, schema_lines}
pub use Rattle.reports.specs.FileBatches.{FileBatch, batch_of, batch_tables, batches_with_fields, table_fields}
pub use Rattle.reports.specs.GroupLines.{column_names, group_arrays, group_lines, group_records}
pub use Rattle.reports.specs.OrMemory.{OrMemory}
pub use Rattle.reports.specs.Parsed.{AddsFiles, IsFirstUnread, IsParsed, IsTextOf, StopsParsing}
pub use Rattle.reports.specs.Queried.{PrintsGroups, RefusesGroups, ShowsGroups}
pub use Rattle.reports.specs.QueryFaults.{IsUnanswered, IsUnreadQuery}
pub use Rattle.reports.specs.Rows.{first_lines}
pub use Rattle.reports.specs.Shown.{column_line, column_lines, field_line, rows_line, stats_text, worker_line, worker_lines}

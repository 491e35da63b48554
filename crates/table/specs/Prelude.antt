-- The words of table that contracts and proofs name most.
pub use Rattle.answers.specs.Agg.{Agg}
pub use Rattle.answers.specs.Aggs.{Count, Greatest, Least, Rows, Sum}
pub use Rattle.answers.specs.Answers.{IsAnswer, group_shape}
pub use Rattle.table.specs.Book.{pair_of}
pub use Rattle.table.specs.Cause.{IsLegal, IsRowOf, IsTableOf, batch_cause, cause, difference, differs, early_cause, full_in, handed_cause, is_book_full, is_table_full, null_in, null_row}
unfoldable pub use Rattle.table.specs.Cause.{null_cause, texts_cause}
pub use Rattle.answers.specs.ColumnStats.{ColumnStats}
pub use Rattle.table.specs.Columns.{HasColumns}
pub use Rattle.table.specs.Compacted.{IsCompacted}
pub use Rattle.table.specs.Contents.{Contents, admitted, table_code}
pub use Rattle.table.specs.Export.{HasMore, IsExportPlace, IsLawful, IsUnder, copied, passed, rows_before}
pub use Rattle.answers.specs.FaultText.{query_fault_text}
pub use Rattle.answers.specs.FirstFault.{fits}
pub use Rattle.answers.specs.Groups.{GroupShape, groups}
pub use Rattle.table.specs.History.{History, book, history_from, of, rows}
pub use Rattle.answers.specs.Joined.{better, both_sums}
pub use Rattle.table.specs.Lawful.{EndsWithEntry, IsStored, LawfulTable, NamesFronts, book_rows, dictionary_in, rows_of_batches, texts_in}
unfoldable pub use Rattle.table.specs.Lawful.{dictionaries_of}
pub use Rattle.table.specs.Moved.{AreMoved, IsMoved, with_last}
pub use Rattle.compaction.specs.Neighbours.{AreApart, AreGroups}
pub use Rattle.answers.specs.QueryFault.{QueryFault}
pub use Rattle.answers.specs.QueryFaults.{Overflow}
pub use Rattle.answers.specs.QueryShape.{QueryShape, query_shape}
pub use Rattle.answers.specs.QueryText.{QueryText}
pub use Rattle.table.specs.Ready.{ArePools, BeginWithTexts, IsAdditionOf, column_texts}
pub use Rattle.table.specs.Recoded.{coded, dictionary_for, entry_count, full_at, grown, is_past_dictionary, shortened, stored_seen}
unfoldable pub use Rattle.table.specs.Recoded.{full_cause}
pub use Rattle.answers.specs.Resolved.{named, renamed_agg, resolved}
pub use Rattle.answers.specs.Scalar.{Scalar}
pub use Rattle.answers.specs.Scalars.{item_of_scalar}
pub use Rattle.answers.specs.Stats.{greater, greatest_of, is_bytes, is_number, is_truth, least_of, lesser, nulls_of, number_of, sum_of}
pub use Rattle.table.specs.Storage.{IsConsistent, IsPut, IsSame, IsWith, batches_of, book_of, dictionaries_in, pieces_in, show}
pub use Rattle.table.specs.Stored.{is_stored_as, is_text_field, stored_field, stored_fields, stored_kind}
pub use Rattle.answers.specs.Summary.{AreStats, scalar_item}
pub use Rattle.table.specs.Widened.{add_fault, widened, widened_row, widened_table, with_last_field}
pub use Rattle.table.specs.Widening.{AreAllWider, AreWider, IsWider, no_texts, with_nulls}

-- The words of answers that contracts and proofs name most.
pub use Rattle.query.specs.declared.expr.Agg.{Agg}
pub use Rattle.query.specs.declared.expr.Agg.TheVariants.{Count, Greatest, Least, Rows, Sum}
pub use Rattle.answers.specs.Answers.{IsAnswer, IsRefusal, all_rows, first_fields, group_shape}
pub use Rattle.group.specs.declared.stats.ColumnStats.{ColumnStats}
pub use Rattle.query.specs.FirstFault.{fits}
pub use Rattle.answers.specs.Grouping.{HasGroups, IsGrouped, IsReadyFor, group_at, groups_from, key_tables}
pub use Rattle.answers.specs.Groups.{GroupShape, cell, first_keys, group_of, grouped, groups, is_bad, is_kept, keys_of, rows_of_key, unless_bad, values, verdict, verdict_of}
pub use Rattle.answers.specs.Masks.{is_set, ones_of, set_rows}
pub use Rattle.answers.specs.Merging.{AreAnswers, AreJoinedInTurn, AreMergeable, HasOrder, IsMergeable, again, all_again, merging, row_of_group, rows_of_answers, rows_of_shards}
pub use Rattle.answers.specs.Pieces.{AreLooked, HasRun, IsGood, IsPieceRefusal, between, cut_at, rows_between}
pub use Rattle.query.specs.declared.fault.QueryFault.{QueryFault}
pub use Rattle.query.specs.declared.fault.QueryFault.TheVariants.{NoMemory, Overflow}
pub use Rattle.query.specs.QueryShape.{QueryShape, query_shape}
pub use Rattle.answers.specs.Runs.{AreSound, AreVerdicts, HasKept, IsBadRow, StopsAt, keeps, keeps_item, kept_in, rows_in}
pub use Rattle.group.specs.Scalars.{item_of_scalar}
pub use Rattle.group.specs.StatsOfColumns.{AreJoined, AreTheirs}
pub use Rattle.group.specs.Summary.{AreSame, AreStats}

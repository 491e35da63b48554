-- The words of compaction that contracts and proofs name most.
pub use Rattle.select.specs.Chosen.{chosen}
pub use Rattle.compaction.specs.Columns.{AreJoinable, IsColumnOf, IsJoined, IsOver}
pub use Rattle.compaction.specs.Fronts.{IsBatchOf, IsLongest, IsOfKind, fits_at, fits_in, has_few}
pub use Rattle.compaction.specs.Neighbours.{AreGroups, IsGroup, is_big, is_one, together}
pub use Rattle.compaction.specs.Sizes.{levels, size_at}
pub use Rattle.compaction.specs.Statistics.{AreOfFew, AreStatsOf}
pub use Rattle.compaction.specs.Under.{HaveStats, IsDictionary, IsUnder, NamesFront, NamesWhole, are_as_long, entry_count, is_as_long, pieces_of}

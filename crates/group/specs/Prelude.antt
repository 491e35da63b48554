-- The words of group that contracts and proofs name most.
pub use Rattle.group.specs.Bounds.{IsGreatestOf, IsLeastOf}
pub use Rattle.group.specs.Joined.{better, both_sums}
pub use Rattle.group.specs.Numbers.{IsGreatest, IsLeast, greatest_number, least_number}
pub use Rattle.group.specs.Scalars.{item_of_ref, item_of_scalar, item_or_null}
pub use Rattle.group.specs.Stats.{greater, greatest_of, is_bytes, is_number, is_ordered, is_truth, least_of, lesser, nulls_of, number_of, numbers_of, ordered, sum_of, total_of}
pub use Rattle.group.specs.StatsOfColumns.{AreJoined, AreTheirs, Joins}
pub use Rattle.group.specs.Summary.{AreStats, scalar_item}
pub use Rattle.group.specs.Tally.{IsTally, chosen}

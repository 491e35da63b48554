-- What the contracts of this crate speak of.
pub use Rattle.group.specs.Joined
pub use Rattle.group.specs.Scalars
pub use Rattle.group.specs.Stats
pub use Rattle.group.specs.Summary
pub use Rattle.group.specs.declared.stats.ColumnStats
pub use Rattle.group.specs.declared.stats.Scalar
pub use Rattle.query.specs.FaultText
pub use Rattle.query.specs.FirstFault
pub use Rattle.query.specs.QueryShape
pub use Rattle.query.specs.Resolved
pub use Rattle.query.specs.declared.expr.Agg
pub use Rattle.query.specs.declared.expr.Agg.TheVariants as Aggs
pub use Rattle.query.specs.declared.fault.QueryFault
pub use Rattle.query.specs.declared.fault.QueryFault.TheVariants as QueryFaults
pub use Rattle.query.specs.declared.queries.QueryText
pub mod Groups
pub mod Grouping
pub mod Runs
pub mod Masks
pub mod Pieces
pub mod Answers
pub mod Merging
pub mod Prelude

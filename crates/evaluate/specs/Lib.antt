-- What the contracts of this crate speak of.
pub use Rattle.query.specs.declared.expr.Agg.TheVariants as Aggs
pub mod Value
pub mod Slices
pub mod Making
pub mod Rows
pub mod Prelude

-- The words of evaluate that contracts and proofs name most.
pub use Rattle.query.specs.declared.expr.Agg.{Agg}
pub use Rattle.query.specs.declared.expr.Agg.TheVariants.{Count, Greatest, Least, Rows, Sum}
pub use Rattle.query.specs.CalledColumns.{sort_at}
pub use Rattle.query.specs.FirstFault.{agg_fault, key_fault}
pub use Rattle.evaluate.specs.Making.{AreMade, Gives, StopsAt, StopsMaking, bounded_by, comparison_of, in_order, is_of_operands, stop_of, turned, values_of}
pub use Rattle.evaluate.specs.Rows.{HasColumn}
pub use Rattle.evaluate.specs.Slices.{AreFilterValues, AreValues, IsFilterStop, column_of, item_in, row_in, sort_in}
pub use Rattle.query.specs.Sorts.{is_plain}
pub use Rattle.evaluate.specs.Value.{bounded, bounded_in, comparison, of_one, of_operands, of_two, value}

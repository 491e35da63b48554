-- The words of tallies that contracts and proofs name most.
pub use Rattle.tallies.specs.Columns.{ColumnShape, IsColumnOf, cell_of_group, column_of, rows_column, show_column, show_item, show_number, show_total}
pub use Rattle.tallies.specs.Ends.{agg_at, further, is_better, is_further, number_if_any, with_item}
pub use Rattle.tallies.specs.Kinds.{AreComparable, IsComparable}
pub use Rattle.tallies.specs.Merging.{AreAlike, AreFew, column_merged, merge_all, merged, put_all, spread_all}
pub use Rattle.tallies.specs.Picked.{items_at}
pub use Rattle.tallies.specs.Spread.{padded, put, spread}
pub use Rattle.tallies.specs.Tallies.{AreTallies, HasRoomFor, TallyShape, bettered, cell_of, counted, item_for, items_for, summed, tally_of, valid_items}
pub use Rattle.tallies.specs.Totals.{sum_if_any}

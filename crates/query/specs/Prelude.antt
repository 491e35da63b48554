-- The words of query that contracts and proofs name most.
pub use Rattle.query.specs.CalledColumns.{has_name, place_of, sort_at, sort_named, sort_of_field}
pub use Rattle.query.specs.Checked.{all_checked, and_then, checked, sort_of_operator}
pub use Rattle.query.specs.FirstFault.{agg_fault, fault_unless, filter_fault, fits, is_too_deep, key_fault, query_fault}
pub use Rattle.query.specs.Named.{agg_columns, columns, columns_in, columns_of, columns_of_aggs, filter_columns}
pub use Rattle.query.specs.QueryShape.{QueryShape, query_shape}
pub use Rattle.query.specs.Resolved.{all_renamed, named, place_in, renamed, renamed_agg, renamed_query, resolved, unless_fault, written}
pub use Rattle.query.specs.Sorts.{is_int, is_plain, is_truth, sort_of_kind, sort_of_one, sort_of_two}
pub use Rattle.query.specs.Tree.{Tree, Trees, column, deepest, depth, int, none, one, op, text, tree_of, trees}

-- The words of json_query that contracts and proofs name most.
pub use Rattle.json_query.specs.QueryDocument.{ReadsQueryText, agg, query_of}
unfoldable pub use Rattle.json_query.specs.QueryDocument.{aggs, by, filter, key_names, list_in, query_text}
pub use Rattle.json_query.specs.QueryData.{HasDocument, HaveDocuments, IsWithinLimits, agg_data, each_data, expr_data, filter_data, operands_data, query_data, tree_count}
pub use Rattle.json_query.specs.QueryDocumentFault.{QueryBytesFault}
pub use Rattle.json_query.specs.QueryExpr.{expr_within, formed, named_tree, operands, operator_of}
pub use Rattle.json_query.specs.QueryForm.{form_of, op_name, operand_count}
pub use Rattle.json_query.specs.Reading.{JsonReading, MayReport, array_in, both, chain, each_from, each_item, items, mapped, under, wanted}

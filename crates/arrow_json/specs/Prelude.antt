-- The words of arrow_json that contracts and proofs name most.
pub use Rattle.json_base.specs.FaultAt.{Tells, stands, wants}
pub use Rattle.json_base.specs.declared.fault.JsonFault.{JsonFault}
pub use Rattle.json_base.specs.declared.fault.JsonFaultKind.{JsonFaultKind}
pub use Rattle.json_base.specs.JsonFaultText.{fault_text}
pub use Rattle.json_read.specs.JsonField.{FieldTextFault, IsFieldText}
pub use Rattle.json_read.specs.JsonFile.{AreUnder, BytesFault, Reads, file_of}
pub use Rattle.json_base.specs.JsonTable.{FileData, Table, items_of, rows_of, table_of, tables_of}
pub use Rattle.json_query.specs.QueryDocument.{ReadsQueryText}
pub use Rattle.json_query.specs.QueryDocumentFault.{QueryBytesFault}
pub use Rattle.json_print.specs.SchemaData.{list_name, text_name}
pub use Rattle.json_base.specs.declared.path.Step.{Step}
pub use Rattle.json_print.specs.Text.{document}
unfoldable pub use Rattle.json_print.specs.Text.{text}

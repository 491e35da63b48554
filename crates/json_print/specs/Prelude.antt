-- The words of json_print that contracts and proofs name most.
pub use Rattle.json_print.specs.BatchData.{batch_data, batches_data, columns_data}
pub use Rattle.json_print.specs.ColumnData.{code_data, column_data, each, flag_data, int_data, item_length, list_column, number_data, offset_data, offsets, offsets_data, plain_column, shaped_column, sized, text_column, text_data, truth_data, valid_data, whole_data}
pub use Rattle.json_print.specs.Dictionaries.{IsEncodedAt, column_at, column_items, dictionaries_from, dictionary_of}
pub use Rattle.json_print.specs.DictionaryData.{entries_data, entry_data, text_batch, text_items, with_field}
pub use Rattle.json_print.specs.Fits.{AreShallow, AreSmall, FitColumns, FitDictionaries, FitTables, FitsField, FitsFile, FitsOffset, FitsShape, FitsTable}
pub use Rattle.json_print.specs.Plain.{AreBehind, ArePlain, ArePlainMembers, IsPlain}
pub use Rattle.json_print.specs.SchemaData.{dictionary_data, field_data, fields_data, int_type, list_name, named_members, schema_data, text_name, type_data}
pub use Rattle.json_print.specs.Slots.{IsPartOf, code_in, part_data, starts_tokens}
pub use Rattle.json_print.specs.Text.{document, has_dictionary, is_encoded, last_members}
unfoldable pub use Rattle.json_print.specs.Text.{text}
pub use Rattle.json_print.specs.Written.{Adds, AddsMembers, natural, tokens_of}

-- The words of json_read that contracts and proofs name most.
pub use Rattle.json_read.specs.BareField.{IsTypeRead}
pub use Rattle.json_read.specs.CatalogParts.{AreCodings, AreNumbered, AreWordsOf, HasEncodings, HasSome, IsCoding, IsCodingAt, IsNoDictionary, coding_of, ids_of}
pub use Rattle.json_read.specs.CodeParts.{HoldsCodes}
pub use Rattle.json_base.specs.Data.{Data, Items, Members, Num, array, boolean, float, item, negative, no_items, no_members, null, number, object, put, string, unsigned}
pub use Rattle.json_read.specs.EncodingParts.{AreEncoded, HasSomeEncoding, parts_of}
pub use Rattle.json_base.specs.Events.{items_len}
pub use Rattle.json_base.specs.FaultAt.{Tells}
pub use Rattle.json_base.specs.Find.{as_array, as_integer, as_u64, get_item, get_member}
pub use Rattle.json_read.specs.JsonBatch.{HoldsColumn, HoldsColumns, HoldsTop, IsCatalogOf, ReadsBatch, ReadsColumn, ReadsColumns, ReadsTop}
pub use Rattle.json_read.specs.JsonBatchFault.{BatchFault, CodedFault, ColumnsFault, KindFault, Unread, bad_column, bad_columns, bad_list, bad_rows, no_batch_object, unread}
pub use Rattle.json_read.specs.JsonCatalog.{Coding, HasCatalog, HasCoding, HasDictionary, HasEntries, HasId, IsEncodedBy, StandsOnce, listed_fields}
pub use Rattle.json_read.specs.JsonCatalogFault.{CatalogFault, CodingsFault, EntriesFault, NamedFault, NamesEncoding, NoId, again, bad_coding, bad_encodings, bad_entries, bad_entry, bad_entry_id, bad_named, bad_numbers, no_entries, no_entry_object, nowhere}
pub use Rattle.json_read.specs.JsonCodes.{ReadsCodes, entry_at, indices}
pub use Rattle.json_read.specs.JsonCodesFault.{CodesFault, IndicesFault, bad_codes, no_code_slots, no_index, no_index_flag, past_dictionary}
pub use Rattle.json_read.specs.JsonColumn.{HasFlags, HasSlots, ReadsPlain, ReadsSlots, Spelling, flagged_at, flags_of, is_past_offsets, numbers, overflows, slot_of, spelling_of, texts, truths}
pub use Rattle.json_read.specs.JsonColumnFault.{ColumnFault, CountFault, FlagsFault, NoSlots, SlotsFault, bad_count, bad_flags, bad_slots, bad_values, no_column_object, no_count, no_flag, no_flags, no_slots, no_value, other_count, too_long}
pub use Rattle.json_read.specs.JsonDictionary.{ReadsEntry, ReadsTexts, WrapsTexts, bare, wrapped}
pub use Rattle.json_read.specs.JsonDictionaryFault.{EntryFault, TextsFault, WrapperFault, bad_bare, bad_texts, bad_texts_count, bad_texts_list, bad_wrapped, no_batch, no_texts_object}
pub use Rattle.json_read.specs.JsonEncoding.{Encoding, HasEncoding, IsEncoding, id_of}
pub use Rattle.json_read.specs.JsonEncodingFault.{EncodedFault, EncodingFault, bad_encoding, bad_id, bad_index, no_encoding_object}
pub use Rattle.json_read.specs.JsonField.{FieldTextFault, IsFieldText, bad_field_text, no_field_text}
pub use Rattle.json_read.specs.JsonFields.{IsEncodedField, ReadsField, ReadsSchema, encoded_field, plain_field}
pub use Rattle.json_read.specs.JsonFieldsFault.{SchemaFault, TopFault, bad_encoded, bad_field, bad_fields, bad_top, no_schema_object, other_values}
pub use Rattle.json_read.specs.JsonFile.{AreUnder, BytesFault, FileFault, HasSchema, Reads, ReadsFile, bad_batch, bad_batches, bad_catalog, bad_file, bad_schema, file_of, no_file_object, no_json}
pub use Rattle.json_read.specs.JsonList.{HasListMembers, IsListColumn, ReadsLists, SpellsOffset, are_enough, list_slot, lists_fault, offset_bytes}
pub use Rattle.json_read.specs.JsonListFault.{ChildFault, ListsFault, NoFlags, NoLists, NoOffset, NotLawful, OffsetsFault, bad_child, bad_child_column, bad_child_count, bad_children, bad_list_count, bad_list_flags, bad_lists, bad_offset, bad_offsets, no_child_object, no_flag_at, no_flags_of_lists, no_list_object, no_lists, no_offset, no_offsets, not_enough, not_lawful}
pub use Rattle.json_base.specs.JsonMember.{NoDocument, ReadsEach, ReadsFirst, member_of}
pub use Rattle.json_base.specs.JsonNumber.{below, count_of, fitting, flag_number, flag_of, integer_of, narrow, spelled, whole_of}
pub use Rattle.json_base.specs.JsonPath.{member_name}
pub use Rattle.json_read.specs.JsonSchema.{HasChildren, HasField, HasType, IsFieldOf, NamesLists, ReadsInt, ReadsShape, is_childless, lists_name, member_type, only_child, only_item, texts_name, type_name}
pub use Rattle.json_read.specs.JsonSchemaFault.{FieldFault, IndexFault, NamesChildless, TypeFault, bad_field_name, bad_index_type, bad_nullable, bad_sign, bad_type, bad_type_name, bad_width, bool_name, encoded_item, has_children, int_name, ninth_list, no_child, no_dictionary_object, no_field_object, no_type_object, other_index, other_type, other_width, texts_called}
pub use Rattle.json_base.specs.JsonTable.{Table, table_of}
pub use Rattle.json_read.specs.ListBuffers.{HoldsFlags, HoldsOffsets, IsFlag}
pub use Rattle.json_read.specs.ListParts.{list_child, list_flags, list_offsets}
pub use Rattle.json_base.specs.declared.path.Member.{Member}
pub use Rattle.json_read.specs.PlaceParts.{ArePlaces, IsBefore, IsNumberPlace, place_at}
pub use Rattle.json_base.specs.Read.{max_depth, number_from, number_of, of_items, of_json, of_members, read}
pub use Rattle.json_read.specs.SlotParts.{flags_in, values_in}
pub use Rattle.json_read.specs.Unfit.{HasNextItem, IsSlotFault, IsUnfit, has_no_room, refused, spells_nothing}
pub use Rattle.json_base.specs.View.{view}

-- The words of arrays that contracts and proofs name most.
pub use Rattle.arrays.specs.Array.{kind_with, read_array, show_array, words_with}
pub use Rattle.arrays.specs.Batch.{Batch, Row, Table, bad_length, batch_fault, column, differing_length, differing_type, row_of, rows_of}
pub use Rattle.colbits.specs.Bit.{bit_in}
unfoldable pub use Rattle.colbits.specs.Bit.{bit, bits}
pub use Rattle.colbits.specs.Bitmap.{IsBitmap, IsBitmapOf, bit_of}
pub use Rattle.arrays.specs.Builder.{IsBuilt}
unfoldable pub use Rattle.arrays.specs.Builder.{built, numbers_where}
pub use Rattle.layout.specs.Checked.{checked, checked_texts, read_checked}
pub use Rattle.arrays.specs.Column.{Column, SizedColumn, TextColumn}
pub use Rattle.types.specs.declared.data_type.DataType.{DataType, DataType-F, fold_out-DataType, map-DataType, out-DataType}
pub use Rattle.types.specs.declared.data_type.DataType.TheVariants.{Bool, Dict, Int, LargeList', LargeUtf8, List', Utf8, outs-Bool, outs-Dict, outs-Int, outs-LargeList', outs-LargeUtf8, outs-List', outs-Utf8}
pub use Rattle.arrays.specs.Dictionary.{codes_of, dictionary_of, encoded, entries_shown, is_code, looked_up, over, texts_alone}
pub use Rattle.layout.specs.Fault.{bytes_for, do_parts_differ, is_no_child, is_validity_short, least_row}
unfoldable pub use Rattle.layout.specs.Fault.{own_fault}
pub use Rattle.types.specs.declared.data_type.Field.{Field, fold-Field, fold_out-Field, out-Field, size-Field}
pub use Rattle.types.specs.FieldCode.{field_code}
pub use Rattle.arrays.specs.File.{AreBatchesOf, File, kinds_of}
pub use Rattle.types.specs.First.{first}
pub use Rattle.arrays.specs.FromParts.{AreTexts, list_parts, show_bits, show_lists, show_numbers, show_slots, show_texts}
pub use Rattle.arrays.specs.Growing.{AreFresh, AreLaid, AreTextsOf, IsText, cut_texts, lengths_by}
unfoldable pub use Rattle.arrays.specs.Growing.{bools_where, lengths_where}
pub use Rattle.types.specs.declared.int_type.IntType.{IntType}
pub use Rattle.layout.specs.Item.{Item, Items, boolean, int, is_null, items_of, list, list_of, more, none, null, text}
pub use Rattle.types.specs.Kind.{Kind, bytes_of, depth, ends_in_dict, has_dict_in_list, int32, int64, item_kind, kind_of, kind_step, same_int, same_kind, utf8}
pub use Rattle.layout.specs.Layout.{Buffers, bytes_at, is_valid_in}
pub use Rattle.layout.specs.declared.fault.LayoutFault.{LayoutFault}
pub use Rattle.layout.specs.declared.fault.LayoutFault.TheVariants.{IndexPastDictionary, TooLong}
pub use Rattle.arrays.specs.Lengths.{IsBuildFault, IsFull, cut, inner_items, is_past, is_too_big, items_in, joined_items, list_length, text_bytes, text_length, total}
pub use Rattle.arrays.specs.Lent.{read_lent}
pub use Rattle.types.specs.Limits.{most_slots}
pub use Rattle.colbits.specs.declared.memory.NoMemory.{NoMemory}
pub use Rattle.arrays.specs.Nulls.{nulls}
pub use Rattle.types.specs.Number.{IsOfType, IsResult, is_negative, is_of_type, natural}
unfoldable pub use Rattle.types.specs.Number.{bytes_of_number, number_at}
pub use Rattle.types.specs.OffsetSize.{is_full, most_of, offset_type, size_of}
pub use Rattle.types.specs.declared.offset_width.OffsetWidth.{OffsetWidth}
pub use Rattle.types.specs.declared.offset_width.OffsetWidth.TheVariants.{Narrow, Wide}
pub use Rattle.layout.specs.Offsets.{AreOffsetBytes, length_at, of_slot, offsets_in, slot_at, start_at}
pub use Rattle.arrays.specs.Order.{order}
pub use Rattle.arrays.specs.Packed.{IsBufferOf}
pub use Rattle.arrays.specs.Parts.{read_alone}
pub use Rattle.layout.specs.declared.raw.RawArray.{RawArray, out-RawArray}
pub use Rattle.layout.specs.Reading.{Reading, child_fault, dictionary_fault, inner_of, reading}
unfoldable pub use Rattle.layout.specs.Reading.{read_parts}
pub use Rattle.types.specs.Schema.{holds_dict, is_deep, schema_fault}
pub use Rattle.types.specs.declared.schema.SchemaFault.{SchemaFault}
pub use Rattle.types.specs.declared.schema.SchemaFault.TheVariants.{DictInList, TooDeep}
pub use Rattle.layout.specs.Seen.{Entries, Seen, no_entries, part, valid_at, valid_in}
pub use Rattle.layout.specs.SeenCode.{item_code, items_code, seen_code}
pub use Rattle.types.specs.Shape.{FieldShape, Shape, dict, field, field_of, field_step, fields_of, is_nullable, kind_of_field, kind_of_shape, lists, name_of, shape_of, shape_step, texts}
pub use Rattle.arrays.specs.Shown.{kept, shown, validity_of}
pub use Rattle.colbits.specs.Slice.{slice}
pub use Rattle.arrays.specs.Slot.{holds_at, is_int, is_list, is_recodable, is_text, item_at, item_of, item_of_bool, item_of_list, item_of_text}
pub use Rattle.arrays.specs.Truth.{knows_false, knows_true}
pub use Rattle.arrays.specs.Typed.{AreItemsOf, IsItemOf}
pub use Rattle.arrays.specs.Values.{HasBits, HasLists, HasNumbers, HasTexts, IsRange, bool_in, bool_items, item_of_range, items_of_lists, items_of_texts, items_where, number_in, number_items, text_in, text_items, valid_values}
pub use Rattle.arrays.specs.View.{read_view, show_view}
pub use Rattle.arrays.specs.ViewType.{view_kind}
pub use Rattle.types.specs.declared.int_type.Width.{Width}
pub use Rattle.types.specs.declared.int_type.Width.TheVariants.{W16, W32, W64, W8}

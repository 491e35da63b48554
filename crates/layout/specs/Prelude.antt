-- The words of layout that contracts and proofs name most.
pub use Rattle.layout.specs.Checked.{checked, checked_texts, read_checked}
pub use Rattle.layout.specs.Fault.{Inner, are_offsets_short, bad_code_row, bad_text_row, bytes_for, child_length, content_faults, decreasing_row, do_parts_differ, does_count_differ, entry_count, has_negative_offset, is_data_short, is_missing, is_no_child, is_no_code, is_no_text, is_past_end, is_validity_short, least_decreasing, least_row, null_count, positions, shape_faults}
unfoldable pub use Rattle.layout.specs.Fault.{own_fault}
pub use Rattle.layout.specs.Inner.{content_faults_of, inner_children, inner_dictionary, inner_raw, own_fault_of, shape_faults_of}
pub use Rattle.layout.specs.Item.{Item, boolean, int, is_null, items_of, list, list_of, null, text}
pub use Rattle.layout.specs.Layout.{Buffers, buffer_at, bytes_at, code_at, is_valid, is_valid_in, offset_at, validity_of, value_at}
unfoldable pub use Rattle.layout.specs.Layout.{codes, column}
pub use Rattle.layout.specs.Offsets.{AreBytesOf, AreOffsetBytes, AreOffsets, length_at, length_of, of_slot, offsets_in, slot_at, start_at, start_of}
pub use Rattle.layout.specs.Reading.{Reading, child_fault, child_items, dictionary_fault, entries_of, fault, inner_of, reading, reading_step}
unfoldable pub use Rattle.layout.specs.Reading.{read_parts}
pub use Rattle.layout.specs.Seen.{Entries, Seen, no_entries, null_count_of, nulls_in, part, valid_at, valid_in}
pub use Rattle.layout.specs.SeenCode.{item_code, items_code, seen_code}

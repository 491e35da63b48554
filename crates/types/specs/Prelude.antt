-- The words of types that contracts and proofs name most.
pub use Rattle.types.specs.FieldCode.{field_code, kind_code}
pub use Rattle.types.specs.First.{first}
pub use Rattle.types.specs.Kind.{Kind, bits_of, boolean, bytes_of, depth, dict, has_dict_in_list, int, int32, int64, item_kind, kind_of, kind_step, lists, offset_width, same_int, same_kind, same_offsets, texts, utf8}
pub use Rattle.types.specs.Limits.{most_slots}
pub use Rattle.types.specs.Number.{IsOfType, is_negative, is_of_type, natural}
unfoldable pub use Rattle.types.specs.Number.{bytes_of_number, number_at}
pub use Rattle.types.specs.OffsetSize.{is_full, most_of, offset_type, size_of}
pub use Rattle.types.specs.Schema.{holds_dict, is_shallow_with_dict, schema_fault}
pub use Rattle.types.specs.Shape.{FieldShape, Shape, field_of, field_step, fields_of, kind_of_field, kind_of_shape, name_of, shape_of, shape_step}

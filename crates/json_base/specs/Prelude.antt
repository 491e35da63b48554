-- The words of json_base that contracts and proofs name most.
pub use Rattle.serde_json.specs.Data.{Data, Items, Members, Num, array, boolean, depth, float, item, items_depth, member, members_depth, negative, no_items, no_members, null, number, object, put, string, unsigned}
pub use Rattle.serde_json.specs.Events.{items_len}
pub use Rattle.json_base.specs.FaultAt.{IsFault, IsUnder, Tells, fault_at, no_memory}
pub use Rattle.serde_json.specs.Find.{as_array, as_bool, as_null, as_number, as_object, as_str, get_item, get_member, of_integer}
pub use Rattle.json_base.specs.JsonMember.{EachFault, IsObject, ListFault, MemberFault, Missing, NoDocument, ReadsEach, ReadsFirst, Unlike, absent, is_without, length_differs, member_of, missing, no_array, no_document, unlike, wrong}
pub use Rattle.json_base.specs.JsonNumber.{count_of, flag_of, integer_of, width_of}
pub use Rattle.json_base.specs.JsonPath.{member_name}
pub use Rattle.json_base.specs.JsonTable.{FileData, Table, items_of, table_of, tables_of}
pub use Rattle.serde_json.specs.Read.{max_depth, number_of, of_items, of_json, of_members, read}
pub use Rattle.serde_json.specs.declared.value.Value.{Value}
pub use Rattle.serde_json.specs.View.{items_view, view}
pub use Rattle.serde_json.specs.Written.{comma_if, compact_text, items_outline, items_text, members_outline, members_text, number_text, outline}

-- The flags, the offsets and the child that a reader has found.
use Rattle.std.specs.Prelude.{Option, option_map}
use Rattle.json_base.specs.Prelude.{Data, Items, items_view, view}
use Rattle.json_read.specs.declared.list.ListParts.{ListParts}

-- Where there are none, all lists are valid.
abbrev pub list_flags : ListParts → Option Items
list_flags p = option_map (λ fs. items_view fs.now) p.flags

abbrev pub list_offsets : ListParts → Items
list_offsets p = items_view p.offsets.now

abbrev pub list_child : ListParts → Data
list_child p = view p.child.now

-- The flags and values that a reader has found.
use Rattle.std.specs.Prelude.{Option, option_map}
use Rattle.json_base.specs.Prelude.{Items, items_view}
use Rattle.json_read.specs.declared.column.Slots.{Slots}

-- Where there are none, all slots are valid.
abbrev pub flags_in : Slots → Option Items
flags_in s = option_map (λ fs. items_view fs.now) s.flags

abbrev pub values_in : Slots → Items
values_in s = items_view s.values.now

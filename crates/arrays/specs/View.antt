-- Slots of a checked array, borrowed.
use Rattle.std.specs.Prelude.{◌≡◌, ◌+◌, ◌≤◌, None, option_map}
use Rattle.std.specs.Arc.{arc_value}
use Rattle.types.specs.Limits.{most_slots}
use Rattle.arrays.specs.ViewType.{view_kind}
use Rattle.layout.specs.Prelude.{Reading, Seen, part, read_checked}
use Rattle.arrays.specs.declared.view.View.TheInside.{Inside}

-- The whole array that the view is of.
abbrev pub read_view : Inside → Reading
read_view v = read_checked (view_kind v.ty) v.total v.buffers.now v.children.now (option_map (λ w. arc_value w.now) v.words)

abbrev pub show_view : Inside → Seen
show_view v = part v.start v.len (read_view v).seen

-- The array is lawful, and the view lies within it.
pub record IsView (v : Inside) : Type 0 where
  pub lawful : (read_view v).fault ≡ None
  pub within : v.start + v.len ≤ v.total
  pub few : v.total ≤ most_slots

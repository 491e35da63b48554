-- Selection: the items at indices, and those where a mask is true.
use Rattle.std.specs.Prelude.{ℕ, ◌==◌, List, map, filter, zip, length, position, Bool, false, not, Option, Some, None, option_map, if◌then◌else◌}
use Rattle.arrays.specs.Item as item
use Rattle.arrays.specs.Prelude.{Item, Seen, is_code, is_int, looked_up, same_kind}
use Rattle.arrays.specs.Kind as kind
use Rattle.select.specs.declared.fault.SelectFault.{SelectFault}
use Rattle.select.specs.declared.fault.SelectFault.TheVariants.{WrongKind, LengthsDiffer, IndexOutOfRange}

-- Null where the index is null, else the item at that index.
abbrev pub taken : List Item → List Item → List Item
taken items indices = map (looked_up items) indices

abbrev pub is_true : Item → Bool
is_true (item.boolean b) = b
is_true x = false

-- The items where the mask is true.
abbrev pub kept : List Item → List Item → List Item
kept items mask = map (λ p. p.0) (filter (λ p. is_true p.1) (zip items mask))

-- ---- what is refused

-- The indices are no integers.
abbrev pub indices_fault : Seen → Option SelectFault
indices_fault indices = if is_int indices.kind then None else Some WrongKind

-- The least row whose index is there and names none of n slots.
abbrev pub outside : ℕ → List Item → Option ℕ
outside n indices = position (λ x. not (is_code n x)) indices

-- The first fault of all: the kind, the least row.
abbrev pub take_fault : Seen → Seen → Option SelectFault
take_fault s indices = if is_int indices.kind then option_map (λ row. IndexOutOfRange row) (outside (length s.items) indices.items) else Some WrongKind

-- The mask isn't of truth values, else not as long as the column.
abbrev pub filter_fault : Seen → Seen → Option SelectFault
filter_fault s mask = if same_kind mask.kind kind.boolean then if length mask.items == length s.items then None else Some LengthsDiffer else Some WrongKind

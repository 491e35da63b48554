-- The array of some items: it has a validity only where an item is null.
use Rattle.std.specs.Prelude.{List, [], map, Bool, not, Option, Some, None, if◌then◌else◌}
use Rattle.std.specs.List.{list_any}
use Rattle.layout.specs.Prelude.{Item, Seen, is_null, no_entries}
use Rattle.types.specs.Kind.{Kind}

-- Bits that are not all 1, else none. (Arrow columnar format, "Validity bitmaps": arrays without nulls may omit theirs.)
abbrev pub kept : List Bool → Option (List Bool)
kept bits = if list_any not bits then Some bits else None

abbrev pub validity_of : List Item → Option (List Bool)
validity_of items = kept (map (λ x. not (is_null x)) items)

-- What an array of the kind shows whose items are these.
abbrev pub shown : Kind → List Item → Seen
shown k items = record { kind = k; validity = validity_of items; items = items; codes = []; entries = no_entries }

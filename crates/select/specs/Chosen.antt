-- What an array shows that has chosen items of a column.
use Rattle.std.specs.Prelude.{List}
use Rattle.arrays.specs.Prelude.{Item, Kind, Seen, shown, validity_of}
use Rattle.arrays.specs.Kind.{dict}

-- Where the column is dictionary-encoded the codes are chosen in the same way, and its dictionary stays as it is.
abbrev pub chosen : Kind → (List Item → List Item) → Seen → Seen
chosen dict choose s = record { kind = dict; validity = validity_of (choose s.codes); items = choose s.items; codes = choose s.codes; entries = s.entries }
chosen k choose s = shown k (choose s.items)

-- An array whose parts were checked.
use Rattle.std.specs.Prelude.{Option, if◌then◌else◌, is_some, option_map}
use Rattle.std.specs.Arc.{arc_value}
use Rattle.types.specs.Kind.{Kind, dict, kind_of}
use Rattle.layout.specs.Prelude.{Reading, Seen}
use Rattle.arrays.specs.Parts.{read_alone}
use Rattle.arrays.specs.declared.array.encoding.Encoding.{Encoding}
use Rattle.arrays.specs.declared.array.Array.TheInside.{Inside}

-- The kind of parts that are of kind k where no dictionary is named.
abbrev pub kind_with : Kind → Option Encoding → Kind
kind_with k e = if is_some e then dict else k

-- The texts of the dictionary, if there is one.
abbrev pub words_with : Option Encoding → Option Seen
words_with = option_map (λ e. arc_value e.words)

abbrev pub read_array : Inside → Reading
read_array a = read_alone (kind_with (kind_of (arc_value a.parts).ty) a.encoding) (arc_value a.parts) (words_with a.encoding)

abbrev pub show_array : Inside → Seen
show_array a = (read_array a).seen

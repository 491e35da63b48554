-- A dictionary's texts, which hold no other array.
use Rattle.std.specs.Prelude.{[], None}
use Rattle.std.specs.Arc.{arc_value}
use Rattle.types.specs.Kind.{utf8}
use Rattle.layout.specs.Prelude.{Reading, Seen, read_parts}
use Rattle.arrays.specs.declared.array.parts.Parts.{Parts}
use Rattle.arrays.specs.declared.words.Words.TheInside.{Inside}

-- The texts as an array of their own.
abbrev pub read_texts : Parts → Reading
read_texts p = read_parts utf8 p.length None p.buffers.items [] None

abbrev pub read_words : Inside → Reading
read_words w = read_texts (arc_value w.parts)

abbrev pub show_words : Inside → Seen
show_words w = (read_words w).seen

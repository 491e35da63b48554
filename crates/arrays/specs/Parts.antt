-- The parts that an array and its copies share.
use Rattle.std.specs.Prelude.{Option}
use Rattle.types.specs.Kind.{Kind}
use Rattle.layout.specs.Prelude.{Reading, Seen, read_checked}
use Rattle.arrays.specs.declared.array.parts.Parts.{Parts}

-- The parts as an array of the kind, with the texts of a dictionary or without.
abbrev pub read_alone : Kind → Parts → Option Seen → Reading
read_alone k p words = read_checked k p.length p.buffers.items p.children.items words

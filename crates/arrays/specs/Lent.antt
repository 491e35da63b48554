-- The parts of an array that are lent.
use Rattle.std.specs.Prelude.{option_map}
use Rattle.std.specs.Arc.{arc_value}
use Rattle.layout.specs.Prelude.{Reading, read_checked}
use Rattle.types.specs.Kind.{Kind}
use Rattle.arrays.specs.declared.lent.LentParts.{LentParts}

-- The parts as an array of the kind.
abbrev pub read_lent : Kind → LentParts → Reading
read_lent k p = read_checked k p.length p.buffers.now p.children.now (option_map (λ w. arc_value w.now) p.words)

use Rattle.std.proofs.Common.{◌≡◌, length, take}
use Rattle.std.specs.Prelude.{All}
use mathlib.Core.List.{IsPrefix}
use Rattle.keys.specs.Prelude.{IsWithin, key_of_parts, named_texts}
use Rattle.keys.proofs.key_set.renamed_parts.Given as goal

-- The parts so far.
abbrev pub invariant-loop-part : goal.invariant-loop-part
invariant-loop-part l =
    (key_of_parts (named_texts l.texts) l.renamed.items ≡ key_of_parts (named_texts l.others) (take l.part-index l.parts))
    × (length l.renamed.items ≡ l.part-index)
    × All (IsWithin (length (named_texts l.texts))) l.renamed.items
    × IsPrefix (named_texts l.initial.texts) (named_texts l.texts)

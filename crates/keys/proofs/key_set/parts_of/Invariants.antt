use Rattle.std.proofs.Common.{◌≡◌, length, take}
use Rattle.std.specs.Prelude.{All}
use mathlib.Core.List.{IsPrefix}
use Rattle.arrays.specs.Batch.{row_of}
use Rattle.keys.specs.Prelude.{IsWithin, key_of, key_of_parts, named_texts}
use Rattle.keys.proofs.key_set.parts_of.Given as goal

-- The parts so far.
abbrev pub invariant-loop-place : goal.invariant-loop-place
invariant-loop-place l =
    (key_of_parts (named_texts l.texts) l.parts.items ≡ key_of (take l.place-index l.columns.by.now) (row_of l.columns.batch.now.columns l.row))
    × (length l.parts.items ≡ l.place-index)
    × All (IsWithin (length (named_texts l.texts))) l.parts.items
    × IsPrefix (named_texts l.initial.texts) (named_texts l.texts)

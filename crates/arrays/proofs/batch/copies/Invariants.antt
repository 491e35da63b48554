use Rattle.std.proofs.Common.{◌≡◌, take}
use Rattle.arrays.proofs.batch.copies.Given as goal

-- The columns so far have their copies.
abbrev pub invariant-loop-column : goal.invariant-loop-column
invariant-loop-column l = l.copied.items ≡ take l.column-index l.columns

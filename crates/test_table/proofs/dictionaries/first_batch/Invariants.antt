use Rattle.std.proofs.Common.{◌≡◌, ◌+◌, length}
use Rattle.test_table.proofs.dictionaries.first_batch.Given as goal

abbrev pub invariant-loop-other : goal.invariant-loop-other
invariant-loop-other l = length l.texts.items ≡ l.other-counter + 1

use Rattle.std.proofs.Common.{◌≡◌, length, map}
use Rattle.std.specs.Vec.Iter.{into_iter_items, into_iter_len}
use Rattle.reports.proofs.ParseLemmas.{AddsSoFar}
use Rattle.arrowtab.proofs.windows.add_files.Given as goal

-- The files of the texts that were looked at, and what the others were parsed to.
abbrev pub invariant-loop-parsed : goal.invariant-loop-parsed
invariant-loop-parsed g l = record {
  added : AddsSoFar (map (λ t. t.items) l.fn.texts.items) l.fn.files.items l.files.items (into_iter_items l.parsed-iterator);
  left : into_iter_len l.parsed-iterator ≡ length (into_iter_items l.parsed-iterator);
}

use Rattle.std.proofs.Common.{length}
use Rattle.compaction.specs.Fronts.{IsLongest}
use Rattle.compaction.proofs.FrontLemmas.{fits_so_far, tables_of}
use Rattle.compaction.proofs.groups.group_len.Given as goal

abbrev pub invariant-loop-column : goal.invariant-loop-column
invariant-loop-column l = IsLongest (fits_so_far l.schema l.max_rows l.column) (length l.batches) l.len (tables_of l.batches)

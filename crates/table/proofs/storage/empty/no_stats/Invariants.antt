use Rattle.std.proofs.Common.{[], take}
use Rattle.arrays.specs.Prelude.{fields_of}
use Rattle.compaction.specs.Statistics.{AreStatsOf}
use Rattle.table.proofs.storage.empty.no_stats.Given as goal

abbrev pub invariant-loop-field : goal.invariant-loop-field
invariant-loop-field l = AreStatsOf (fields_of (take l.field-index l.fields)) [] l.stats.items

use Rattle.std.proofs.Common.{◌≡◌, ◌<◌, All, length, map}
use Rattle.std.specs.Arc.{arc_value}
use Rattle.std.specs.declared.alloc.Global.{Global}
use Rattle.std.specs.declared.vec.Vec.{Vec}
use Rattle.table.specs.Chunks.{AreChunks, chunk_values}
use Rattle.table.proofs.chunks.Chunks.of.Given as goal

abbrev pub invariant-loop-value : goal.invariant-loop-value
invariant-loop-value g l = record {
  chunks : AreChunks (map arc_value l.full.items) l.last.items (length l.yielded);
  same : chunk_values (map arc_value l.full.items) l.last.items ≡ l.yielded;
}

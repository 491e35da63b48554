use Rattle.std.proofs.Common.{map, take}
use Rattle.std.specs.Arc.{arc_value}
use Rattle.std.specs.List.{AllZip, zip}
use Rattle.arrays.specs.Prelude.{kind_of}
use Rattle.compaction.specs.Under.{pieces_of}
use Rattle.table.specs.Widening.{AreWider}
use Rattle.table.proofs.widening.wider_pieces.Given as goal

abbrev pub invariant-loop-k : goal.invariant-loop-k
invariant-loop-k l =
    AllZip (λ p s. AreWider (kind_of l.ty) p.0.rows p.1 s) (take l.k (zip (map arc_value l.batches) (pieces_of l.batch_stats))) (pieces_of l.wider.items)

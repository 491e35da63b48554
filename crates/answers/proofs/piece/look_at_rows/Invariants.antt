use Rattle.std.proofs.Common.{◌≡◌, length, map, take}
use Rattle.std.specs.Arc.{arc_value}
use Rattle.answers.specs.Prelude.{HasRun, all_rows, between, first_fields}
use Rattle.answers.proofs.piece.look_at_rows.Given as goal

-- The rows of the piece in the batches so far.
abbrev pub invariant-loop-batch : goal.invariant-loop-batch
invariant-loop-batch g l =
    let batches = map arc_value l.scan.batches.now in
    let front = all_rows (take l.batch-index batches) in
    record {
      before : l.before ≡ length front;
      run : HasRun (first_fields batches) l.scan.query.now (between l.from l.to front) l.grouping;
    }

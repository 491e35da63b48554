use Rattle.std.proofs.Common.{◌≡◌, ◌++◌}
use Rattle.arrays.specs.Growing.{lengths_by}
use Rattle.arrays.proofs.builder.offsets.OffsetsBuilder.push_each.Given as goal

abbrev pub invariant-loop-i : goal.invariant-loop-i
invariant-loop-i l = record {
  width : l.self.width ≡ l.fn.self.width;
  lengths : l.self.lengths ≡ l.fn.self.lengths ++ lengths_by l.offsets l.i;
}

use Rattle.std.proofs.Common.{◌≡◌, map, take}
use Rattle.std.specs.Prelude.{All}
use Rattle.arrays.specs.Dictionary.{codes_of}
use Rattle.select.specs.Joined.{IsEncoded}
use Rattle.compaction.proofs.joining.codes_of.Given as goal

abbrev pub invariant-loop-view : goal.invariant-loop-view
invariant-loop-view l = record {
  codes : l.codes.items ≡ map codes_of (take l.view-index l.views);
  encoded : All IsEncoded (take l.view-index l.views);
}

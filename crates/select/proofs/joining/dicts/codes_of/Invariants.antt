use Rattle.std.proofs.Common.{◌≡◌, ◌+◌, ◌++◌, drop, length, take}
use Rattle.std.specs.Prelude.{All}
use Rattle.arrays.specs.Prelude.{int32, joined_items}
use Rattle.select.specs.Joined.{IsEncoded, joined_codes, joined_entries}
use Rattle.select.proofs.joining.dicts.codes_of.Given as goal

abbrev pub invariant-loop-view : goal.invariant-loop-view
invariant-loop-view l = record {
  ty : l.builder.ty ≡ int32;
  encoded : All IsEncoded (take l.view-index l.views);
  codes : l.builder.items ++ joined_codes l.before (drop l.view-index l.views) ≡ joined_codes 0 l.views;
  before : l.before + length (joined_entries (drop l.view-index l.views)) ≡ length (joined_entries l.views);
  room : length l.builder.items + length (joined_items (drop l.view-index l.views)) ≡ length (joined_items l.views);
}

use Rattle.std.proofs.Common.{◌≡◌, ◌++◌, drop, map}
use Rattle.std.specs.Prelude.{flat_map}
use Rattle.arrays.specs.Prelude.{Seen, joined_items, list_length}
use Rattle.select.proofs.joining.lists.lengths.Given as goal

abbrev pub invariant-loop-view : goal.invariant-loop-view
invariant-loop-view l = record {
  width : l.builder.width ≡ l.fn.width;
  lengths : l.builder.lengths ++ flat_map (λ (s : Seen). map list_length s.items) (drop l.view-index l.views) ≡ map list_length (joined_items l.views);
}

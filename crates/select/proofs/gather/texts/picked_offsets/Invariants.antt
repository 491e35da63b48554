use Rattle.std.proofs.Common.{◌≡◌, drop, take}
use Rattle.arrays.specs.Values.{items_of_texts}
use Rattle.select.specs.Prelude.{AreOffsetsOf, picked}
use Rattle.select.proofs.gather.texts.picked_offsets.Given as goal

abbrev pub invariant-loop-slot : goal.invariant-loop-slot
invariant-loop-slot g l = record {
  reported : g.R.Rows.rest l.rows l.place ≡ drop l._slot (g.R.Rows.picks l.rows);
  laid : AreOffsetsOf l.width (picked (items_of_texts l.texts) (take l._slot (g.R.Rows.picks l.rows))) l.offsets.items l.end;
}

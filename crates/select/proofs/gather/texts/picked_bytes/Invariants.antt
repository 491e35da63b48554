use Rattle.std.proofs.Common.{◌≡◌, drop, take}
use Rattle.arrays.specs.Values.{items_of_texts}
use Rattle.select.specs.Prelude.{all_bytes, picked}
use Rattle.select.proofs.gather.texts.picked_bytes.Given as goal

abbrev pub invariant-loop-slot : goal.invariant-loop-slot
invariant-loop-slot g l = record {
  reported : g.R.Rows.rest l.rows l.place ≡ drop l._slot (g.R.Rows.picks l.rows);
  filled : l.bytes.items ≡ all_bytes (picked (items_of_texts l.texts) (take l._slot (g.R.Rows.picks l.rows)));
}

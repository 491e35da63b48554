use Rattle.std.proofs.Common.{◌≡◌, drop}
use Rattle.arrays.specs.Values.{items_of_lists}
use Rattle.select.proofs.ListLemmas.{Spreading}
use Rattle.select.proofs.gather.lists.spread_out.Given as goal

abbrev pub invariant-loop-slot : goal.invariant-loop-slot
invariant-loop-slot g l = record {
  reported : g.R.Rows.rest l.rows l.place ≡ drop l._slot (g.R.Rows.picks l.rows);
  width : l.spread.lists.width ≡ l.fn.width;
  spread : Spreading l.lists.child.items (items_of_lists l.lists) (g.R.Rows.picks l.rows) l._slot l.spread.lists.lengths l.spread.rows;
}

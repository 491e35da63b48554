use Rattle.std.proofs.Common.{◌≡◌, drop}
use Rattle.select.specs.Stored.{AreStored}
use Rattle.select.proofs.gather.numbers.picked_numbers.Given as goal

-- the picks so far have their numbers
abbrev pub invariant-loop-slot : goal.invariant-loop-slot
invariant-loop-slot g l = record {
  reported : g.R.Rows.rest l.rows l.place ≡ drop l._slot (g.R.Rows.picks l.rows);
  stored : AreStored g.T.Integer.ty l.numbers.values.now (g.R.Rows.picks l.rows) l._slot l.values.items;
}

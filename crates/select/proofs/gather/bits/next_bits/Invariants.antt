use Rattle.std.proofs.Common.{◌≡◌, ◌&&◌, ℕ, None, drop, nat_lt, get_or}
use Rattle.arrays.specs.Prelude.{bit_in}
use Rattle.select.specs.Stored.{is_stored}
use Rattle.select.proofs.gather.bits.next_bits.Given as goal

-- the bits before the place are set where they should be, and all others are 0
abbrev pub invariant-loop-j : goal.invariant-loop-j
invariant-loop-j g l = record {
  reported : g.R.Rows.rest l.rows l.place ≡ drop l.j (g.R.Rows.rest l.rows l.fn.place);
  set : (k : ℕ) → bit_in l.word k ≡ (nat_lt k l.j && is_stored l.bits (get_or (g.R.Rows.rest l.rows l.fn.place) k None));
}

use Rattle.std.proofs.Common.{◌≡◌, ◌*◌, ◌<◌, ℕ, None, drop, get_or, length}
use Rattle.arrays.specs.Prelude.{bit}
use Rattle.select.specs.Stored.{is_stored}
use Rattle.select.proofs.gather.bits.picked_bits.Given as goal

-- the bytes so far have the bits of their rows
abbrev pub invariant-loop-word : goal.invariant-loop-word
invariant-loop-word g l = record {
  reported : g.R.Rows.rest l.rows l.place ≡ drop (64 * l._word) (g.R.Rows.picks l.rows);
  long : length l.bytes.items ≡ 8 * l._word;
  packed : (i : ℕ) → i < 64 * l._word → bit l.bytes.items i ≡ is_stored l.bits (get_or (g.R.Rows.picks l.rows) i None);
}

use Rattle.std.proofs.Common.{◌≡◌, ◌<◌, ℕ, None, true, get_or}
use Rattle.select.specs.Picked.{is_row}
use Rattle.select.proofs.picks.PicksRows.are_rows.Given as goal

-- the slots so far have a row
abbrev pub invariant-loop-j : goal.invariant-loop-j
invariant-loop-j l = (k : ℕ) → k < l.j → is_row (get_or l.self k None) ≡ true

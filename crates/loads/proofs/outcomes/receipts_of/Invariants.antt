use Rattle.std.proofs.Common.{◌≡◌, ◌+◌, ◌≤◌, length, take, vec_capacity, vec_len}
use Rattle.loads.specs.Report.{last_receipts}
use Rattle.loads.proofs.outcomes.receipts_of.Given as goal

abbrev pub invariant-loop-outcome : goal.invariant-loop-outcome
invariant-loop-outcome g l = record {
  items : l.receipts.items ≡ last_receipts (take l.outcome-index l.outcomes);
  room : vec_len l.receipts + length l.outcomes ≤ vec_capacity l.receipts + l.outcome-index;
}

use Rattle.std.proofs.Common.{◌≤◌, take, option_map}
use Rattle.arrays.specs.Prelude.{text}
use Rattle.group.specs.Tally.{IsTally}
use Rattle.group.proofs.slots.text_stats.Given as goal

-- the slots so far are counted in
abbrev pub invariant-loop-i : goal.invariant-loop-i
invariant-loop-i l = record {
  tally : IsTally l.view.kind l.nulls (option_map (λ t. text t.now) l.least) (option_map (λ t. text t.now) l.greatest) (take l.i l.view.items);
  few : l.nulls ≤ l.i;
}

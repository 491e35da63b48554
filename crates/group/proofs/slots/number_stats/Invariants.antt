use Rattle.std.proofs.Common.{take, option_map}
use Rattle.arrays.specs.Prelude.{int}
use Rattle.arrays.specs.Kind as kind
use Rattle.group.specs.Tally.{IsTally}
use Rattle.group.specs.declared.number.Number.{Number}
use Rattle.group.proofs.SumLemmas.{IsSum}
use Rattle.group.proofs.slots.number_stats.Given as goal

-- the slots so far are counted in
abbrev pub invariant-loop-i : goal.invariant-loop-i
invariant-loop-i g l =
    let item = λ (n : Number g.row.T.Denot). int (g.T.Integer.value n.number) in
    record {
      tally : IsTally (kind.int g.T.Integer.ty) l.tally.nulls (option_map item l.tally.least) (option_map item l.tally.greatest) (take l.i l.view.items);
      sum : IsSum l.i l.sum (take l.i l.view.items);
    }

use Rattle.std.proofs.Common.{arith, subst, sym}
use Rattle.std.specs.declared.alloc.Global.{Global}
use Rattle.std.specs.declared.vec.Vec.{Vec}
use Rattle.group.specs.declared.stats.ColumnStats.{ColumnStats}
use Rattle.compaction.specs.Prelude.{AreStatsOf, together}
use Rattle.compaction.proofs.StatisticsLemmas.{AreOfFirst, first-all, first-one}
use Rattle.compaction.proofs.statistics.stats_of.Goals as goal

pub joined-requires-clause-few : goal.joined-requires-clause-few
joined-requires-clause-few c = c.requires.few

pub returns-in_ok-new-in_default : goal.returns-in_ok-new-in_default
returns-in_ok-new-in_default c fields tables are =
    subst (λ (v : Vec ColumnStats Global). AreStatsOf fields (together tables) v.items) (sym c.in_ok-new-in_default.ensures.ok) (c.in_ok-joined-in_default.ensures fields tables are)

pub returns-in_ok-clone-in-len1 : goal.returns-in_ok-clone-in-len1
returns-in_ok-clone-in-len1 c =
    let shared = c.args.batch_stats.now in
    let s = c.only-item.result in
    first-all shared 1 _ (omega (arith, c.in-len1.len_below))
    (subst (λ (v : Vec ColumnStats Global). AreOfFirst 1 shared v.items) (sym c.in_ok-clone-in-len1.ensures.cases) (first-one shared s (omega (arith, c.in-len1.len_at_least)) c.only-item.is))

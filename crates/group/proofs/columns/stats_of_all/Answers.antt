use Rattle.std.proofs.Common.{arith, subst}
use Rattle.arrays.specs.Prelude.{Seen}
use Rattle.group.specs.Summary.{AreStats}
use Rattle.group.specs.declared.stats.ColumnStats.{ColumnStats}
use Rattle.group.proofs.ColumnsLemmas.{all_zip-more}
use Rattle.group.proofs.columns.stats_of_all.Goals as goal

pub loop-column-preserved : goal.loop-column-preserved
loop-column-preserved c =
    let column = c.column-item.result in
    let s = c.in_ok-stats_of.field-0 in
    all_zip-more (λ (x : Seen) (q : ColumnStats). AreStats q x.kind x.items) c.args.columns.now c.loop-column.stats.items c.push.new.self.items c.loop-column.column-index column s
    (omega arith) c.column-item.is c.in_ok-push.ensures.items c.loop-column.invariant
    (subst (λ (x : Seen). AreStats s x.kind x.items) c.view.ensures c.in_ok-stats_of.ensures)

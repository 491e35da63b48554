use Rattle.std.proofs.Common.{◌≡◌, ◌∙◌, ◌+◌, ◌^◌, ◌≤◌, List, ap, arith, length, subst, sym}
use Rattle.std.specs.Arc.{arc_value}
use Rattle.std.specs.List.{AllZip}
use Rattle.std.specs.declared.alloc.Global.{Global}
use Rattle.std.specs.declared.vec.Vec.{Vec}
use Rattle.group.specs.StatsOfColumns.{AreJoined}
use Rattle.group.specs.declared.stats.ColumnStats.{ColumnStats}
use Rattle.compaction.proofs.StatisticsLemmas.{AreOfFirst, first-all, first-count, first-few, first-more, first-one, rest-at, rest-past, rest-within}
use Rattle.compaction.proofs.statistics.joined.Goals as goal

abbrev AreTogetherFew : List ColumnStats → List ColumnStats → Type 0
AreTogetherFew a b = AllZip (λ x y. x.rows + y.rows ≤ 2 ^ 40) a b

pub joined_all-requires-clause-count : goal.joined_all-requires-clause-count
joined_all-requires-clause-count c =
    let shared = c.args.batch_stats.now in
    let first = c.index-batch_stats-0.result in
    let second = c.index-batch_stats-1.result in
    let a = c.deref-2.ensures.value ∙ ap (λ (v : Vec ColumnStats Global). v.items) c.deref.ensures in
    let b = c.deref-4.ensures.value ∙ ap (λ (v : Vec ColumnStats Global). v.items) c.deref-3.ensures in
    ap (λ (l : List ColumnStats). length l) b
    ∙ first-count shared 1 second (arc_value first).items c.requires.few (omega (arith, c.requires.several)) c.index-batch_stats-1.is (first-one shared first (omega (arith, c.requires.several)) c.index-batch_stats-0.is)
    ∙ ap (λ (l : List ColumnStats). length l) (sym a)

pub joined_all-requires-clause-few : goal.joined_all-requires-clause-few
joined_all-requires-clause-few c =
    let shared = c.args.batch_stats.now in
    let first = c.index-batch_stats-0.result in
    let second = c.index-batch_stats-1.result in
    let a = c.deref-2.ensures.value ∙ ap (λ (v : Vec ColumnStats Global). v.items) c.deref.ensures in
    let b = c.deref-4.ensures.value ∙ ap (λ (v : Vec ColumnStats Global). v.items) c.deref-3.ensures in
    subst (λ l. AreTogetherFew l c.deref-4.result.now) (sym a)
    (subst (AreTogetherFew (arc_value first).items) (sym b)
    (first-few shared 1 second (arc_value first).items c.requires.few (omega (arith, c.requires.several)) c.index-batch_stats-1.is (first-one shared first (omega (arith, c.requires.several)) c.index-batch_stats-0.is)))

pub loop-stats-init : goal.loop-stats-init
loop-stats-init c =
    let shared = c.args.batch_stats.now in
    let first = c.index-batch_stats-0.result in
    let second = c.index-batch_stats-1.result in
    let new = c.in_ok-all.all.items in
    let a = c.deref-2.ensures.value ∙ ap (λ (v : Vec ColumnStats Global). v.items) c.deref.ensures in
    let b = c.deref-4.ensures.value ∙ ap (λ (v : Vec ColumnStats Global). v.items) c.deref-3.ensures in
    let both : AreJoined (arc_value first).items (arc_value second).items new =
    subst (λ l. AreJoined l (arc_value second).items new) a (subst (λ l. AreJoined c.deref-2.result.now l new) b c.in_ok-all.ensures) in
    first-more shared 1 second (arc_value first).items new (omega (arith, c.requires.several)) c.index-batch_stats-1.is (first-one shared first (omega (arith, c.requires.several)) c.index-batch_stats-0.is) both

pub joined_all-requires-in-loop-stats-clause-count : goal.joined_all-requires-in-loop-stats-clause-count
joined_all-requires-in-loop-stats-clause-count c =
    let shared = c.args.batch_stats.now in
    let i = c.loop-stats.stats-index in
    let s = c.stats-item.result in
    let b = c.deref-in-loop-stats-3.ensures.value ∙ ap (λ (v : Vec ColumnStats Global). v.items) c.deref-in-loop-stats-2.ensures in
    ap (λ (l : List ColumnStats). length l) b
    ∙ first-count shared (2 + i) s c.loop-stats.all.items c.requires.few (rest-within shared 2 i c.loop-stats-test.true) (rest-at shared 2 i s c.stats-item.is) c.loop-stats.invariant
    ∙ ap (λ (l : List ColumnStats). length l) (sym c.deref-in-loop-stats.ensures.value)

pub joined_all-requires-in-loop-stats-clause-few : goal.joined_all-requires-in-loop-stats-clause-few
joined_all-requires-in-loop-stats-clause-few c =
    let shared = c.args.batch_stats.now in
    let i = c.loop-stats.stats-index in
    let s = c.stats-item.result in
    let all = c.loop-stats.all.items in
    let b = c.deref-in-loop-stats-3.ensures.value ∙ ap (λ (v : Vec ColumnStats Global). v.items) c.deref-in-loop-stats-2.ensures in
    subst (λ l. AreTogetherFew l c.deref-in-loop-stats-3.result.now) (sym c.deref-in-loop-stats.ensures.value)
    (subst (AreTogetherFew all) (sym b)
    (first-few shared (2 + i) s all c.requires.few (rest-within shared 2 i c.loop-stats-test.true) (rest-at shared 2 i s c.stats-item.is) c.loop-stats.invariant))

pub loop-stats-preserved : goal.loop-stats-preserved
loop-stats-preserved c =
    let shared = c.args.batch_stats.now in
    let i = c.loop-stats.stats-index in
    let s = c.stats-item.result in
    let all = c.loop-stats.all.items in
    let new = c.in_ok-all-2.all.items in
    let b = c.deref-in-loop-stats-3.ensures.value ∙ ap (λ (v : Vec ColumnStats Global). v.items) c.deref-in-loop-stats-2.ensures in
    let both : AreJoined all (arc_value s).items new =
    subst (λ l. AreJoined l (arc_value s).items new) c.deref-in-loop-stats.ensures.value (subst (λ l. AreJoined c.deref-in-loop-stats.result.now l new) b c.in_ok-all-2.ensures) in
    let next : 2 + i + 1 ≡ 2 + (i + 1) = omega arith in
    subst (λ n. AreOfFirst n shared new) next
    (first-more shared (2 + i) s all new (rest-within shared 2 i c.loop-stats-test.true) (rest-at shared 2 i s c.stats-item.is) c.loop-stats.invariant both)

pub returns : goal.returns
returns c =
    let shared = c.args.batch_stats.now in
    let i = c.loop-stats.stats-index in
    first-all shared (2 + i) c.loop-stats.all.items (rest-past shared 2 i c.loop-stats-test.false) c.loop-stats.invariant

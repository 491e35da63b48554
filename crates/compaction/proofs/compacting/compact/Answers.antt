use Rattle.std.proofs.Common.{rules, ◌+◌, ◌-◌, ◌≤◌, All, arith, drop, length, subst, sym, take}
use Rattle.std.specs.Arc.{arc_value}
use Rattle.compaction.specs.Prelude.{IsBatchOf, IsGroup, IsUnder}
use Rattle.compaction.proofs.CompactingLemmas.{batches_in, count-pieces, group-few, group-fits, group-under, group-within, groups-end, groups-more, rest-under, stats-more, under-more}
use Rattle.compaction.proofs.FrontLemmas.{tables_of}
use Rattle.compaction.proofs.JoinedLemmas.{words_of}
use Rattle.compaction.proofs.compacting.compact.Goals as goal

pub group_len-requires-clause-batches : goal.group_len-requires-clause-batches
group_len-requires-clause-batches c =
    let shared = c.args.batches.now in
    let start = c.loop-start.start in
    subst (λ fields. All (IsBatchOf fields) (batches_in (take (length shared - start) (drop start shared)))) (sym c.deref.ensures)
    (rest-under (arc_value c.args.schema.now) (words_of c.args.dictionaries.now) shared start c.requires.under)

pub batch_of-requires-clause-under : goal.batch_of-requires-clause-under
batch_of-requires-clause-under c =
    group-under (arc_value c.args.schema.now) (words_of c.args.dictionaries.now) c.args.batches.now c.loop-start.start c.group_len.result c.requires.under

pub batch_of-requires-clause-fits : goal.batch_of-requires-clause-fits
batch_of-requires-clause-fits c =
    let fields = arc_value c.args.schema.now in
    let group = subst (λ l. IsGroup l c.args.max_rows c.group_len.result (tables_of (take (length c.args.batches.now - c.loop-start.start) (drop c.loop-start.start c.args.batches.now)))) c.deref.ensures c.group_len.ensures in
    group-fits fields c.args.max_rows c.loop-start.start c.group_len.result c.args.batches.now c.loop-start.invariant.within group

pub slice_bounds-stats_of-end : goal.slice_bounds-stats_of-end
slice_bounds-stats_of-end c =
    let same = count-pieces c.args.batches.now c.args.batch_stats.now c.requires.stats in
    let within = group-within c.deref.result.now c.args.max_rows c.loop-start.start c.group_len.result c.args.batches.now c.loop-start.invariant.within c.group_len.ensures in
    let bound : c.loop-start.start + c.group_len.result ≤ length c.args.batch_stats.now = omega (arith, same, within) in
    search rules

pub stats_of-requires-clause-few : goal.stats_of-requires-clause-few
stats_of-requires-clause-few c =
    group-few c.deref.result.now (words_of c.args.dictionaries.now) c.args.max_rows c.loop-start.start c.group_len.result c.args.batches.now c.args.batch_stats.now c.loop-start.invariant.within
    (subst (λ l. All (IsUnder l (words_of c.args.dictionaries.now)) (batches_in c.args.batches.now)) (sym c.deref.ensures) c.requires.under) c.requires.stats c.group_len.ensures

pub loop-start-preserved : goal.loop-start-preserved
loop-start-preserved c =
    let fields = arc_value c.args.schema.now in
    let words = words_of c.args.dictionaries.now in
    let shared = c.args.batches.now in
    let stats = c.args.batch_stats.now in
    let m = c.args.max_rows in
    let start = c.loop-start.start in
    let n = c.group_len.result in
    let b = c.in_ok-batch.batch in
    let s = c.in_ok-stats_of.field-0 in
    let old = c.loop-start.compacted.batches.items in
    let new = c.push.new.self.items in
    let done = c.loop-start.compacted.batch_stats.items in
    let group = subst (λ l. IsGroup l m n (tables_of (take (length shared - start) (drop start shared)))) c.deref.ensures c.group_len.ensures in
    record {
      within = group-within fields m start n shared c.loop-start.invariant.within group;
      groups = groups-more fields m start n shared old new b c.loop-start.invariant.groups group c.in_ok-batch.ensures.rows c.in_ok-push.ensures.items;
      under = under-more fields words old new b c.loop-start.invariant.under c.in_ok-batch.ensures.under c.in_ok-push.ensures.items;
      stats =
          stats-more fields words shared old new b stats done c.push-in-loop-start.new.self.items s start n c.requires.under c.requires.stats c.in_ok-batch.ensures.under c.in_ok-batch.ensures.rows
          c.in_ok-stats_of.ensures c.loop-start.invariant.stats c.in_ok-push.ensures.items c.in_ok-push-2.ensures.items;
    }

pub returns-clause-groups : goal.returns-clause-groups
returns-clause-groups c =
    groups-end (arc_value c.args.schema.now) c.args.max_rows c.loop-start.start c.args.batches.now c.loop-start.compacted.batches.items c.loop-start-test.false c.loop-start.invariant.groups

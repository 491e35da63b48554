use Rattle.std.proofs.Common.{◌∙◌, ◌+◌, ap, length, sym}
use Rattle.tallies.specs.Columns.{rows_column}
use Rattle.answers.proofs.CountLemmas.{one_column, one_counted}
use Rattle.answers.proofs.grouping.Grouping.add_count.Goals as goal

pub add_count-requires : goal.add_count-requires
add_count-requires c =
    let q = c.args.query.now in
    let g = c.args.self.now in
    let r = c.requires.room in
    (length r.0, one_column q.by.items q.aggs.items c.requires.alone.by c.requires.alone.aggs r.0 g.keys g.columns.items c.index_mut.result.now r.2.0 c.index_mut.ensures.value, r.1)

pub returns-clause-groups : goal.returns-clause-groups
returns-clause-groups c = λ before more count h.
    let q = c.args.query.now in
    let g = c.args.self.now in
    let old = one_column q.by.items q.aggs.items c.requires.alone.by c.requires.alone.aggs before g.keys g.columns.items c.index_mut.result.now h.0 c.index_mut.ensures.value in (
      one_counted q.by.items q.aggs.items c.requires.alone.by c.requires.alone.aggs before g.keys more g.columns.items c.add_count.new.self h.0
          (c.add_count.ensures (length before) old ∙ ap (λ n. rows_column (length before + n)) (sym count)),
      h.1,
    )

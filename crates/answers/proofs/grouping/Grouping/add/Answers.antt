use Rattle.std.proofs.Common.{◌≡◌, ◌∙◌, ◌<◌, ◌≤◌, ◌^◌, [], List, None, ap, arith, length, length-append, map, subst, sym}
use Rattle.std.specs.Prelude.{All}
use Rattle.std.proofs.lemmas.List.{length-map}
use Rattle.arrays.specs.Batch.{Row, row_of}
use Rattle.query.specs.Prelude.{agg_fault, key_fault, query_shape, sort_at}
use Rattle.tallies.specs.Prelude.{IsColumnOf, column_of, padded, show_column, spread}
use Rattle.answers.specs.Prelude.{key_tables, rows_of_key}
use Rattle.keys.specs.Prelude.{AreIds, key_of, keys_at, with_keys}
use Rattle.tallies.specs.declared.column.TallyColumn.{TallyColumn}
use Rattle.std.proofs.lemmas.Result.{on_ok_weaker}
use Rattle.tallies.proofs.ColumnLemmas.{refilled}
use Rattle.answers.proofs.FitLemmas.{what_fits}
use Rattle.answers.proofs.GroupLemmas.{are_columns, columns_fit, grouped_more, same_aggs, tables_short}
use Rattle.keys.proofs.KeyLemmas.{grown, length-ids, ids-inside}
use Rattle.tallies.proofs.ColumnLemmas.{mapped}
use Rattle.answers.proofs.grouping.Grouping.add.Goals as goal

pub invariant_of-columns-clause-plain : goal.invariant_of-columns-clause-plain
invariant_of-columns-clause-plain c =
    subst (All (λ p. key_fault (sort_at c.args.batch.now.fields) p ≡ None)) (sym c.as_slice-by.ensures.value)
    (what_fits c.args.batch.now.fields (query_shape c.args.query.now) c.requires.fits).by

pub add_to_columns-requires-clause-fits : goal.add_to_columns-requires-clause-fits
add_to_columns-requires-clause-fits c =
    let r = c.requires.room in
    let q = c.args.query.now in
    let g = c.args.self.now in
    subst (All (λ (t : TallyColumn). agg_fault (sort_at c.args.batch.now.fields) (show_column t).agg ≡ None)) (sym c.deref_mut.ensures.value)
    (columns_fit (λ a. agg_fault (sort_at c.args.batch.now.fields) a ≡ None) (key_tables q.by.items r.0 g.keys) q.aggs.items g.columns.items r.2.0.columns_are
    (what_fits c.args.batch.now.fields (query_shape q) c.requires.fits).aggs)

pub add_to_columns-requires-clause-lengths : goal.add_to_columns-requires-clause-lengths
add_to_columns-requires-clause-lengths c =
    let by = c.as_slice-by.result.now in
    let columns = c.args.batch.now.columns in
    let rows = c.args.rows.now in
    omega (
      arith,
      ap length c.deref.ensures.value,
      length-ids c.intern_rows.new.keys (keys_at by columns rows) c.intern_rows.new.ids.items c.in_ok-intern_rows.ensures.ids,
      length-map rows (λ r. key_of by (row_of columns r)),
    )

pub add_to_columns-requires-clause-inside : goal.add_to_columns-requires-clause-inside
add_to_columns-requires-clause-inside c =
    let by = c.as_slice-by.result.now in
    let new = c.intern_rows.new.keys in
    let ids = c.intern_rows.new.ids.items in
    subst (All (λ n. n < c.len-groups.result)) (sym c.deref.ensures.value)
    (subst (λ m. All (λ n. n < m) ids) (sym c.len-groups.ensures)
    (ids-inside new (keys_at by c.args.batch.now.columns c.args.rows.now) ids c.in_ok-intern_rows.ensures.ids))

pub add_to_columns-requires-clause-few : goal.add_to_columns-requires-clause-few
add_to_columns-requires-clause-few c =
    let r = c.requires.room in
    let q = c.args.query.now in
    let g = c.args.self.now in
    let tables = key_tables q.by.items r.0 g.keys in
    let wanted = keys_at c.as_slice-by.result.now c.args.batch.now.columns c.args.rows.now in
    let more = grown g.keys wanted in
    let few : length tables ≤ c.len-groups.result =
    omega (
      arith,
      c.len-groups.ensures,
      ap length c.in_ok-intern_rows.ensures.keys,
      ap length more.is,
      length-append g.keys more.extra,
      length-map g.keys (rows_of_key q.by.items r.0),
    ) in (
      tables,
      subst (All (IsColumnOf tables)) (sym c.deref_mut.ensures.value) (are_columns tables q.aggs.items g.columns.items r.2.0.columns_are),
      few,
      tables_short q.by.items r.0 g.keys (length c.args.rows.now) (2 ^ 40) r.1,
    )

pub returns-clause-groups : goal.returns-clause-groups
returns-clause-groups c = λ before h.
    let q = c.args.query.now in
    let by = q.by.items in
    let aggs = q.aggs.items in
    let g = c.args.self.now in
    let cs = g.columns.items in
    let new = c.intern_rows.new.keys in
    let ids = c.intern_rows.new.ids.items in
    let columns = c.args.batch.now.columns in
    let rows = c.args.rows.now in
    let more : List Row = map (row_of columns) rows in
    let changed = c.add_to_columns.new.columns in
    let tables = key_tables by before g.keys in
    let keyed : keys_at c.as_slice-by.result.now columns rows ≡ map (key_of by) more =
    ap (λ b. keys_at b columns rows) c.as_slice-by.ensures.value ∙ sym (mapped (key_of by) (row_of columns) rows) in
    let is : new ≡ with_keys g.keys (map (key_of by) more) = c.in_ok-intern_rows.ensures.keys ∙ ap (λ l. with_keys g.keys l) keyed in
    let at : AreIds new (map (key_of by) more) ids = subst (λ l. AreIds new l ids) keyed c.in_ok-intern_rows.ensures.ids in
    let count = c.add_to_columns.auto.columns ∙ ap length c.deref_mut.ensures.value in
    on_ok_weaker c.add_to_columns.result
    (λ e. (
      grouped_more by aggs before more g.keys new (map show_column cs) _ ids h.0 is at
          (ap (map show_column) (refilled g.columns.len cs changed g.columns.ok.0 count) ∙ e
          ∙ ap (λ ns. map (λ (t : TallyColumn). column_of (spread ns more (padded c.len-groups.result [] tables)) (show_column t).agg) c.deref_mut.result.now) c.deref.ensures.value
          ∙ ap (λ m. map (λ (t : TallyColumn). column_of (spread ids more (padded m [] tables)) (show_column t).agg) c.deref_mut.result.now) c.len-groups.ensures
          ∙ ap (map (λ (t : TallyColumn). column_of (spread ids more (padded (length new) [] tables)) (show_column t).agg)) c.deref_mut.ensures.value
          ∙ same_aggs tables (spread ids more (padded (length new) [] tables)) aggs cs h.0.columns_are),
      c.in_ok-intern_rows.ensures.remembers,
    ))
    (c.add_to_columns.ensures tables (subst (All (IsColumnOf tables)) (sym c.deref_mut.ensures.value) (are_columns tables aggs cs h.0.columns_are)))

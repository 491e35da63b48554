use Rattle.std.proofs.Common.{◌≡◌, ◌∙◌, ◌+◌, ◌++◌, ◌<◌, ◌≤◌, ◌^◌, [], ap, arith, length, length-append, map, subst, sym}
use Rattle.std.specs.Prelude.{All}
use Rattle.std.proofs.lemmas.List.{length-map}
use Rattle.std.proofs.lemmas.List.Elements.{All-weaker}
use Rattle.arrays.specs.Batch.{Table}
use Rattle.tallies.specs.Prelude.{AreAlike, IsColumnOf, column_of, padded, show_column, spread_all}
use Rattle.answers.specs.Prelude.{key_tables, rows_of_key}
use Rattle.keys.specs.Prelude.{Remembers, with_keys}
use Rattle.tallies.specs.declared.column.TallyColumn.{TallyColumn}
use Rattle.std.proofs.lemmas.Result.{on_ok_weaker}
use Rattle.tallies.proofs.ColumnLemmas.{refilled}
use Rattle.answers.proofs.GroupLemmas.{are_columns, columns_fit, same_aggs, tables_short}
use Rattle.keys.proofs.KeyLemmas.{grown, length-ids, ids-inside}
use Rattle.keys.proofs.MemoLemmas.{remembers-more}
use Rattle.answers.proofs.MergeLemmas.{groups-merged, spread_tables}
use Rattle.answers.proofs.JoinLemmas.{aggs_alike, merged_into_none, same_aggs_twice}
use Rattle.answers.proofs.grouping.Grouping.merge.Goals as goal

pub join_columns-requires-clause-same : goal.join_columns-requires-clause-same
join_columns-requires-clause-same c =
    let r = c.requires.room in
    let q = r.0 in
    let g = c.args.self.now in
    let o = c.args.other in
    ap (map (λ (t : TallyColumn). (show_column t).agg)) c.deref.ensures.value
    ∙ same_aggs_twice (key_tables q.by.items r.2 g.keys) (key_tables q.by.items r.3 o.keys) q.aggs.items g.columns.items o.columns.items r.5.0.columns_are r.6.0.columns_are
    ∙ ap (map (λ (t : TallyColumn). (show_column t).agg)) (sym c.deref_mut.ensures.value)

pub join_columns-requires-clause-inside : goal.join_columns-requires-clause-inside
join_columns-requires-clause-inside c =
    let new = c.intern_keys.new.keys in
    let ids = c.intern_keys.new.ids.items in
    subst (All (λ n. n < c.len-groups.result)) (sym c.deref-2.ensures.value)
    (subst (λ m. All (λ n. n < m) ids) (sym c.len-groups.ensures) (ids-inside new c.args.other.keys ids c.in_ok-intern_keys.ensures.ids))

pub join_columns-requires-clause-few : goal.join_columns-requires-clause-few
join_columns-requires-clause-few c =
    let r = c.requires.room in
    let q = r.0 in
    let kinds = r.1 in
    let rows = r.2 in
    let more = r.3 in
    let by = q.by.items in
    let aggs = q.aggs.items in
    let g = c.args.self.now in
    let o = c.args.other in
    let new = c.intern_keys.new.keys in
    let ids = c.intern_keys.new.ids.items in
    let tables = key_tables by rows g.keys in
    let others = key_tables by more o.keys in
    let grows = grown g.keys o.keys in
    let few : length tables ≤ c.len-groups.result =
    omega (arith, c.len-groups.ensures, ap length c.in_ok-intern_keys.ensures.keys, ap length grows.is, length-append g.keys grows.extra, length-map g.keys (rows_of_key by rows)) in
    let count : length others ≡ length c.deref-2.result.now =
    omega (arith, ap length c.deref-2.ensures.value, length-ids new o.keys ids c.in_ok-intern_keys.ensures.ids, length-map o.keys (rows_of_key by more)) in
    let spreads : spread_all c.deref-2.result.now others (padded c.len-groups.result [] tables) ≡ key_tables by (rows ++ more) new =
    ap (λ ns. spread_all ns others (padded c.len-groups.result [] tables)) c.deref-2.ensures.value
    ∙ ap (λ m. spread_all ids others (padded m [] tables)) c.len-groups.ensures
    ∙ spread_tables by aggs rows more g.keys o.keys new _ _ ids r.5.0 r.6.0 c.in_ok-intern_keys.ensures.keys c.in_ok-intern_keys.ensures.ids in (
      kinds,
      tables,
      others,
      subst (All (IsColumnOf tables)) (sym c.deref_mut.ensures.value) (are_columns tables aggs g.columns.items r.5.0.columns_are),
      subst (All (IsColumnOf others)) (sym c.deref.ensures.value) (are_columns others aggs o.columns.items r.6.0.columns_are),
      subst (All (λ (t : TallyColumn). AreAlike kinds tables (show_column t).agg)) (sym c.deref_mut.ensures.value)
          (columns_fit (AreAlike kinds tables) tables aggs g.columns.items r.5.0.columns_are (aggs_alike kinds aggs by rows g.keys r.7)),
      subst (All (λ (t : TallyColumn). AreAlike kinds others (show_column t).agg)) (sym c.deref_mut.ensures.value)
          (columns_fit (AreAlike kinds others) tables aggs g.columns.items r.5.0.columns_are (aggs_alike kinds aggs by more o.keys r.8)),
      few,
      count,
      subst (All (λ (t : Table). length t ≤ 2 ^ 40)) (sym spreads)
          (All-weaker (λ (t : Table). length t + 0 ≤ 2 ^ 40) (λ (t : Table). length t ≤ 2 ^ 40) (λ t h. omega (arith, h)) (key_tables by (rows ++ more) new)
          (tables_short by (rows ++ more) new 0 (2 ^ 40) (omega (arith, r.4, length-append rows more)))),
    )

pub returns-then-len-eq0 : goal.returns-then-len-eq0
returns-then-len-eq0 c = λ q kinds rows more h k are others_are.
    merged_into_none q rows more c.args.self.now c.args.other (omega (arith, c.len.ensures, c.if-len-eq0.true)) h k

pub returns : goal.returns
returns c = λ q kinds rows more h k are others_are.
    let by = q.by.items in
    let aggs = q.aggs.items in
    let g = c.args.self.now in
    let o = c.args.other in
    let cs = g.columns.items in
    let new = c.intern_keys.new.keys in
    let ids = c.intern_keys.new.ids.items in
    let tables = key_tables by rows g.keys in
    let others = key_tables by more o.keys in
    let changed = c.join_columns.new.columns in
    let count = c.join_columns.auto.columns ∙ ap length c.deref_mut.ensures.value in
    let is : new ≡ with_keys g.keys o.keys = c.in_ok-intern_keys.ensures.keys in
    on_ok_weaker c.join_columns.result
    (λ e. (
      groups-merged by aggs rows more g.keys o.keys new (map show_column cs) (map show_column o.columns.items) ids h.0 k.0 is c.in_ok-intern_keys.ensures.ids _
          (ap (map show_column) (refilled g.columns.len cs changed g.columns.ok.0 count) ∙ e
          ∙ ap (λ ns. map (λ (t : TallyColumn). column_of (spread_all ns others (padded c.len-groups.result [] tables)) (show_column t).agg) c.deref_mut.result.now) c.deref-2.ensures.value
          ∙ ap (λ m. map (λ (t : TallyColumn). column_of (spread_all ids others (padded m [] tables)) (show_column t).agg) c.deref_mut.result.now) c.len-groups.ensures
          ∙ ap (map (λ (t : TallyColumn). column_of (spread_all ids others (padded (length new) [] tables)) (show_column t).agg)) c.deref_mut.ensures.value
          ∙ same_aggs tables (spread_all ids others (padded (length new) [] tables)) aggs cs h.0.columns_are),
      subst (λ l. Remembers l g.memo) (sym is) (remembers-more g.keys o.keys g.memo h.1),
    ))
    (c.join_columns.ensures kinds tables others
    (subst (All (IsColumnOf tables)) (sym c.deref_mut.ensures.value) (are_columns tables aggs cs h.0.columns_are))
    (subst (All (IsColumnOf others)) (sym c.deref.ensures.value) (are_columns others aggs o.columns.items k.0.columns_are))
    (subst (All (λ (t : TallyColumn). AreAlike kinds tables (show_column t).agg)) (sym c.deref_mut.ensures.value)
    (columns_fit (AreAlike kinds tables) tables aggs cs h.0.columns_are (aggs_alike kinds aggs by rows g.keys are)))
    (subst (All (λ (t : TallyColumn). AreAlike kinds others (show_column t).agg)) (sym c.deref_mut.ensures.value)
    (columns_fit (AreAlike kinds others) tables aggs cs h.0.columns_are (aggs_alike kinds aggs by more o.keys others_are))))

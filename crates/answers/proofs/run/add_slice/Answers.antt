use Rattle.std.proofs.Common.{◌≡◌, ◌∙◌, ◌<◌, ◌++◌, ◌^◌, ap, arith, filter, length, map, subst, sym}
use Rattle.std.specs.Prelude.{All}
use Rattle.std.proofs.lemmas.List.{length-map}
use Rattle.std.proofs.lemmas.List.Elements.{filter-append}
use Rattle.arrays.specs.Batch.{Table, row_of}
use Rattle.query.specs.QueryShape.{query_shape}
use Rattle.answers.specs.Prelude.{HasGroups, is_kept, kept_in, rows_in}
use Rattle.answers.proofs.RunLemmas.{kept_are, kept_few, kept_within, length-rows_in}
use Rattle.answers.proofs.run.add_slice.Goals as goal

pub add-requires-clause-within : goal.add-requires-clause-within
add-requires-clause-within c =
    let s = c.args.slice in
    subst (All (λ r. r < s.batch.now.rows)) (sym (c.deref.ensures.value ∙ c.in_ok-keep_rows.ensures)) (kept_within c.in_ok-values.values s.start s.len s.batch.now.rows s.within)

pub add-requires-clause-room : goal.add-requires-clause-room
add-requires-clause-room c =
    let s = c.args.slice in
    let b = s.batch.now in
    let f = (query_shape c.args.query.now).filter in
    let r = c.requires.room in
    let kept = kept_in c.in_ok-values.values s.start s.len in
    let more = rows_in b s.start s.len in
    let count : length (filter (is_kept b.fields f) more) ≡ length kept =
    sym (ap length (kept_are b s.start f c.in_ok-values.values s.len c.in_ok-values.ensures.ok)) ∙ length-map kept (row_of b.columns) in
    let few = kept_few b.fields f r.0 more (2 ^ 40) (omega (arith, r.1, length-rows_in b s.start s.len)) in
    (filter (is_kept b.fields f) r.0, omega (arith, few, count, ap length (c.deref.ensures.value ∙ c.in_ok-keep_rows.ensures)), r.2)

pub add_count-requires-clause-room : goal.add_count-requires-clause-room
add_count-requires-clause-room c =
    let s = c.args.slice in
    let b = s.batch.now in
    let f = (query_shape c.args.query.now).filter in
    let r = c.requires.room in
    let more = rows_in b s.start s.len in
    let kept = kept_in c.in_ok-values.values s.start s.len in
    let count : length (filter (is_kept b.fields f) more) ≡ length kept =
    sym (ap length (kept_are b s.start f c.in_ok-values.values s.len c.in_ok-values.ensures.ok)) ∙ length-map kept (row_of b.columns) in
    let few = kept_few b.fields f r.0 more (2 ^ 40) (omega (arith, r.1, length-rows_in b s.start s.len)) in
    (filter (is_kept b.fields f) r.0, omega (arith, few, count, c.count_rows.ensures s.start), r.2)

pub returns-then-counts_rows-clause-ok : goal.returns-then-counts_rows-clause-ok
returns-then-counts_rows-clause-ok c = λ rows has.
    let s = c.args.slice in
    let b = s.batch.now in
    let q = c.args.query.now in
    let f = (query_shape q).filter in
    let p = is_kept b.fields f in
    let more = rows_in b s.start s.len in
    let kept = kept_in c.in_ok-values.values s.start s.len in
    let count : length (filter p more) ≡ length kept =
    sym (ap length (kept_are b s.start f c.in_ok-values.values s.len c.in_ok-values.ensures.ok)) ∙ length-map kept (row_of b.columns) in
    subst (λ (l : Table). HasGroups q l c.add_count.new.self) (sym (filter-append p rows more))
    (c.add_count.ensures.groups (filter p rows) (filter p more) (count ∙ sym (c.count_rows.ensures s.start)) has)

pub returns-clause-ok : goal.returns-clause-ok
returns-clause-ok c = λ rows has.
    let s = c.args.slice in
    let b = s.batch.now in
    let q = c.args.query.now in
    let f = (query_shape q).filter in
    let p = is_kept b.fields f in
    let more = rows_in b s.start s.len in
    let e : filter p rows ++ map (row_of b.columns) c.deref.result.now ≡ filter p (rows ++ more) =
    ap (λ l. filter p rows ++ map (row_of b.columns) l) (c.deref.ensures.value ∙ c.in_ok-keep_rows.ensures)
    ∙ ap (λ (l : Table). filter p rows ++ l) (kept_are b s.start f c.in_ok-values.values s.len c.in_ok-values.ensures.ok)
    ∙ sym (filter-append p rows more) in
    subst (λ (l : Table). HasGroups q l c.add.new.self) e (c.in_ok-add.ensures.groups (filter p rows) has)

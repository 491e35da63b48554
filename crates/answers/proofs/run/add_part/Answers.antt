use Rattle.std.proofs.Common.{filter, length, ◌≡◌, ◌∙◌, ◌+◌, ◌≤◌, ◌++◌, ap, append_assoc, arith, length-append, subst, sym}
use Rattle.std.proofs.lemmas.List.Elements.{filter-append}
use Rattle.arrays.specs.Batch.{Table}
use Rattle.query.specs.QueryShape.{query_shape}
use Rattle.std.proofs.lemmas.List.{append-nil}
use Rattle.answers.specs.Prelude.{HasGroups, HasKept, IsBadRow, StopsAt, is_kept, rows_in}
use Rattle.answers.proofs.CountLemmas.{all_kept}
use Rattle.answers.proofs.RunLemmas.{bad_row, length-rows_in, rows_split, sound_more}
use Rattle.answers.proofs.run.add_part.Goals as goal

pub loop-at-init : goal.loop-at-init
loop-at-init g c =
    let b = c.args.batch.now in
    let q = c.args.scan.now.query.now in record {
      within = omega arith;
      kept = λ before has. subst (λ (l : Table). HasKept b.fields q l c.begin.new.self) (sym (append-nil before)) (c.in_ok-begin.ensures.kept (filter (is_kept b.fields (query_shape q).filter) before) has);
      sound = λ i below. absurd (omega (arith, below));
      ready = c.in_ok-begin.ensures.ready (filter (is_kept b.fields (query_shape q).filter) c.requires.room.0) c.requires.room.2;
    }

pub add_slice-requires-clause-room : goal.add_slice-requires-clause-room
add_slice-requires-clause-room g c =
    let b = c.args.batch.now in
    let at = c.loop-at.at in
    let start = c.args.start in
    let r = c.requires.room in (
      r.0 ++ rows_in b start at,
      omega (arith, r.1, length-append r.0 (rows_in b start at), length-rows_in b start at, c.min-len.ensures, c.loop-at-test.true),
      c.loop-at.invariant.kept r.0 r.2,
    )

pub loop-at-preserved : goal.loop-at-preserved
loop-at-preserved g c =
    let b = c.args.batch.now in
    let q = c.args.scan.now.query.now in
    let start = c.args.start in
    let at = c.loop-at.at in
    let len = c.min-len.result in
    let front = rows_in b start at in record {
      within = omega (arith, c.min-len.ensures, c.loop-at-test.true);
      kept = λ before has.
          subst (λ (l : Table). HasKept b.fields q l c.add_slice.new.grouping)
          (append_assoc before front (rows_in b (start + at) len) ∙ ap (λ (l : Table). before ++ l) (sym (rows_split b start at len)))
          (c.in-Ok.ensures.ok (before ++ front) (c.loop-at.invariant.kept before has));
      sound = sound_more b (query_shape q).filter start at len c.loop-at.invariant.sound c.in-Ok.ensures.sound.each;
      ready = c.in-Ok.ensures.ready;
    }

pub returns-in-Err-Bad-clause-err : goal.returns-in-Err-Bad-clause-err
returns-in-Err-Bad-clause-err g c =
    let b = c.args.batch.now in
    let f = (query_shape c.args.scan.now.query.now).filter in
    let start = c.args.start in
    let at = c.loop-at.at in
    let len = c.min-len.result in
    let bad : IsBadRow b (start + at) len f c.in-Err-Bad.row = subst (StopsAt b (start + at) len f) c.in-Err-Bad.field-0-is c.in-Err-Bad.ensures.err in
    let within : at + len ≤ c.args.rows = omega (arith, c.min-len.ensures, c.loop-at-test.true) in
    subst (λ n. IsBadRow b start c.args.rows f (at + n)) (sym c.in-Err-Bad.row-is) (bad_row b f start at len c.args.rows c.in-Err-Bad.row c.loop-at.invariant.sound within bad)

pub returns-clause-ok : goal.returns-clause-ok
returns-clause-ok g c = λ before has.
    let b = c.args.batch.now in
    let whole : c.loop-at.at ≡ c.args.rows = omega (arith, c.loop-at.invariant.within, c.loop-at-test.false) in
    subst (λ (l : Table). HasKept b.fields c.args.scan.now.query.now (before ++ l) c.loop-at.grouping) (ap (rows_in b c.args.start) whole) (c.loop-at.invariant.kept before has)

pub returns-clause-sound : goal.returns-clause-sound
returns-clause-sound g c = record { each = λ i below. c.loop-at.invariant.sound i (omega (arith, below, c.loop-at-test.false)) }

pub add_count-requires-clause-room : goal.add_count-requires-clause-room
add_count-requires-clause-room g c =
    let b = c.args.batch.now in
    let f = (query_shape c.args.scan.now.query.now).filter in
    let r = c.requires.room in
    let all = all_kept b.fields f r.0 (c.counts_all.ensures c.if-counts_all.true).1 in
    (filter (is_kept b.fields f) r.0, omega (arith, r.1, ap length all), r.2)

pub returns-then-counts_all-clause-ok : goal.returns-then-counts_all-clause-ok
returns-then-counts_all-clause-ok g c = λ before has.
    let b = c.args.batch.now in
    let q = c.args.scan.now.query.now in
    let f = (query_shape q).filter in
    let p = is_kept b.fields f in
    let more = rows_in b c.args.start c.args.rows in
    let alone = c.counts_all.ensures c.if-counts_all.true in
    let e : filter p before ++ more ≡ filter p (before ++ more) =
    ap (λ (l : Table). filter p before ++ l) (sym (all_kept b.fields f more alone.1)) ∙ sym (filter-append p before more) in
    subst (λ (l : Table). HasGroups q l c.add_count.new.self) e (c.add_count.ensures.groups (filter p before) more (length-rows_in b c.args.start c.args.rows) has)

pub returns-then-rows-eq0-clause-ok : goal.returns-then-rows-eq0-clause-ok
returns-then-rows-eq0-clause-ok g c = λ before has.
    let b = c.args.batch.now in
    subst (λ (l : Table). HasKept b.fields c.args.scan.now.query.now l c.args.grouping.now)
    (sym (append-nil before) ∙ ap (λ n. before ++ rows_in b c.args.start n) (sym c.if-rows-eq0.true)) has

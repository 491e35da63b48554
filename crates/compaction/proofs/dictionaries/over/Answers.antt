use Rattle.std.proofs.Common.{◌∙◌, ◌<◌, List, ap, get_or, arith, length, option_map, subst, sym}
use Rattle.std.specs.Arc.{arc_value}
use Rattle.std.specs.List.{AllZip, enumerate_from}
use Rattle.std.proofs.lemmas.List.{length-map, take_all}
use Rattle.arrays.specs.Prelude.{Batch, FieldShape, Seen, batch_fault, rows_of}
use Rattle.compaction.specs.Under.{NamesFront, NamesWhole}
use Rattle.compaction.proofs.BatchLemmas.{count-of}
use Rattle.compaction.proofs.JoinedLemmas.{IsColumn, SharedWords, batch-of, column-over, columns-all, columns-more, count-words, encoded-at, front-at, fronts-whole, lawful-over, rows-over, words-at, words_of, zipped-more}
use Rattle.compaction.proofs.dictionaries.over.Goals as goal

pub bounds-columns-k : goal.bounds-columns-k
bounds-columns-k c =
    let fields = arc_value c.args.schema.now in
    let words = words_of c.args.dictionaries.now in
    let b = c.args.batch.now in
    omega (
      arith,
      c.loop-k-test.true,
      count-words fields c.args.dictionaries.now c.requires.dictionaries,
      count-of fields b (batch-of fields words b c.requires.under),
      ap (λ (l : List Seen). length l) c.columns.ensures.value,
    )

pub column_over-requires-clause-encoded : goal.column_over-requires-clause-encoded
column_over-requires-clause-encoded c =
    let fields = arc_value c.args.schema.now in
    let dictionaries = c.args.dictionaries.now in
    let k = c.loop-k.k in
    let s = c.index-columns-k.result in
    let o = option_map (λ (w : SharedWords). arc_value w) c.index-dictionaries-k.result in
    encoded-at fields (words_of dictionaries) c.args.batch.now k o s (omega (arith, c.loop-k-test.true, count-words fields dictionaries c.requires.dictionaries)) c.requires.dictionaries c.requires.under
    (c.index-columns-k.is ∙ ap (λ (l : List Seen). get_or l k s) c.columns.ensures.value)
    (words-at dictionaries k c.index-dictionaries-k.result c.loop-k-test.true c.index-dictionaries-k.is)

pub column_over-requires-clause-front : goal.column_over-requires-clause-front
column_over-requires-clause-front c =
    let fields = arc_value c.args.schema.now in
    let dictionaries = c.args.dictionaries.now in
    let k = c.loop-k.k in
    let s = c.index-columns-k.result in
    let o = option_map (λ (w : SharedWords). arc_value w) c.index-dictionaries-k.result in
    front-at fields (words_of dictionaries) c.args.batch.now k o s (omega (arith, c.loop-k-test.true, count-words fields dictionaries c.requires.dictionaries)) c.requires.under
    (c.index-columns-k.is ∙ ap (λ (l : List Seen). get_or l k s) c.columns.ensures.value)
    (words-at dictionaries k c.index-dictionaries-k.result c.loop-k-test.true c.index-dictionaries-k.is)

pub loop-k-preserved : goal.loop-k-preserved
loop-k-preserved c =
    let fields = arc_value c.args.schema.now in
    let dictionaries = c.args.dictionaries.now in
    let words = words_of dictionaries in
    let b = c.args.batch.now in
    let k = c.loop-k.k in
    let s = c.index-columns-k.result in
    let o = option_map (λ (w : SharedWords). arc_value w) c.index-dictionaries-k.result in
    let column = c.in_ok-column_over.field-0 in
    let below : k < length fields = omega (arith, c.loop-k-test.true, count-words fields dictionaries c.requires.dictionaries) in
    record {
      columns =
          columns-more fields (rows_of b) k column c.loop-k.columns.items c.push.new.self.items below c.loop-k.invariant.columns
          (column-over fields words b k o s column below c.requires.under (c.index-columns-k.is ∙ ap (λ (l : List Seen). get_or l k s) c.columns.ensures.value) c.in_ok-column_over.ensures.over)
          c.in_ok-push.ensures.items;
      whole =
          zipped-more NamesWhole words k o column c.loop-k.columns.items c.push.new.self.items (omega (arith, c.loop-k-test.true, length-map dictionaries (option_map (λ (w : SharedWords). arc_value w))))
          (words-at dictionaries k c.index-dictionaries-k.result c.loop-k-test.true c.index-dictionaries-k.is) c.loop-k.invariant.whole c.in_ok-column_over.ensures.whole c.in_ok-push.ensures.items;
    }

pub under-requires : goal.under-requires
under-requires c =
    let fields = arc_value c.args.schema.now in
    let b = c.args.batch.now in
    let columns = c.loop-k.columns.items in
    let all = columns-all fields (rows_of b) c.loop-k.k columns (omega (arith, c.loop-k-test.false, count-words fields c.args.dictionaries.now c.requires.dictionaries)) c.loop-k.invariant.columns in
    ap (λ (l : List FieldShape). batch_fault l c.rows.result columns) c.in_ok-clone.ensures.cases
    ∙ ap (λ n. batch_fault fields n columns) c.rows.ensures
    ∙ lawful-over fields (words_of c.args.dictionaries.now) b columns c.requires.under all

pub returns-clause-under : goal.returns-clause-under
returns-clause-under c =
    let fields = arc_value c.args.schema.now in
    let words = words_of c.args.dictionaries.now in
    let b = c.args.batch.now in
    let columns = c.loop-k.columns.items in
    let count = count-words fields c.args.dictionaries.now c.requires.dictionaries in
    let all = columns-all fields (rows_of b) c.loop-k.k columns (omega (arith, c.loop-k-test.false, count)) c.loop-k.invariant.columns in
    let whole = subst (AllZip NamesWhole columns) (take_all c.loop-k.k words (omega (arith, c.loop-k-test.false, length-map c.args.dictionaries.now (option_map (λ (w : SharedWords). arc_value w))))) c.loop-k.invariant.whole in
    record {
      same = ap (λ (q : Batch). q.fields) c.under.ensures ∙ c.in_ok-clone.ensures.cases;
      lawful =
          ap (λ (q : Batch). batch_fault q.fields q.rows q.columns) c.under.ensures
          ∙ ap (λ (l : List FieldShape). batch_fault l c.rows.result columns) c.in_ok-clone.ensures.cases
          ∙ ap (λ n. batch_fault fields n columns) c.rows.ensures
          ∙ lawful-over fields words b columns c.requires.under all;
      fronts = subst (λ (q : Batch). AllZip NamesFront q.columns words) (sym c.under.ensures) (fronts-whole columns words whole);
    }

pub returns-clause-rows : goal.returns-clause-rows
returns-clause-rows c =
    let fields = arc_value c.args.schema.now in
    let b = c.args.batch.now in
    let all = columns-all fields (rows_of b) c.loop-k.k c.loop-k.columns.items (omega (arith, c.loop-k-test.false, count-words fields c.args.dictionaries.now c.requires.dictionaries)) c.loop-k.invariant.columns in
    rows-over fields (words_of c.args.dictionaries.now) b c.under.result c.requires.under
    (subst (λ (q : Batch). AllZip (IsColumn (rows_of b)) (enumerate_from 0 fields) q.columns) (sym c.under.ensures) all)
    (ap (λ (q : Batch). q.rows) c.under.ensures ∙ c.rows.ensures)

use Rattle.std.proofs.Common.{◌∙◌, ◌<◌, ◌≤◌, List, ap, arith, length, map, option_map, subst, sym}
use Rattle.std.specs.Arc.{arc_value}
use Rattle.std.specs.List.{AllZip}
use Rattle.std.proofs.lemmas.List.{length-map}
use Rattle.std.proofs.lemmas.Slice.Zip.{AllZip-long}
use Rattle.arrays.specs.Prelude.{Batch, FieldShape, batch_fault}
use Rattle.compaction.specs.Prelude.{AreJoinable, IsColumnOf, IsJoined, NamesFront, together}
use Rattle.compaction.proofs.FrontLemmas.{Shared, tables_of, wide-at}
use Rattle.compaction.proofs.JoinedLemmas.{SharedWords, batch-rows, batches-of, column-made, columns-all, columns-lawful, columns-more, count-words, joinable, words-at, words_of, zipped-more}
use Rattle.compaction.proofs.joining.joined.Goals as goal

pub views_of-requires : goal.views_of-requires
views_of-requires c =
    let fields = arc_value c.args.schema.now in
    let words = words_of c.args.dictionaries.now in
    let batches = map (λ (b : Shared). arc_value b) c.args.batches.now in
    wide-at fields c.args.batches.now c.loop-k.k (omega (arith, c.loop-k-test.true, count-words fields c.args.dictionaries.now c.requires.dictionaries)) (batches-of fields words batches c.requires.under)

pub joined_column-requires : goal.joined_column-requires
joined_column-requires c =
    let fields = arc_value c.args.schema.now in
    let dictionaries = c.args.dictionaries.now in
    let batches = map (λ (b : Shared). arc_value b) c.args.batches.now in
    let k = c.loop-k.k in
    let o = option_map (λ (w : SharedWords). arc_value w) c.index-dictionaries-k.result in
    subst (AreJoinable o) (sym c.deref.ensures.value)
    (joinable fields (words_of dictionaries) batches c.in_ok-views.views.items k o (omega (arith, c.loop-k-test.true, count-words fields dictionaries c.requires.dictionaries))
    (omega (arith, c.requires.some, length-map c.args.batches.now (λ (b : Shared). arc_value b))) c.requires.dictionaries c.requires.under c.in_ok-views.ensures
    (words-at dictionaries k c.index-dictionaries-k.result c.loop-k-test.true c.index-dictionaries-k.is) c.requires.few c.requires.fits)

pub loop-k-preserved : goal.loop-k-preserved
loop-k-preserved c =
    let fields = arc_value c.args.schema.now in
    let dictionaries = c.args.dictionaries.now in
    let words = words_of dictionaries in
    let batches = map (λ (b : Shared). arc_value b) c.args.batches.now in
    let views = c.in_ok-views.views.items in
    let k = c.loop-k.k in
    let o = option_map (λ (w : SharedWords). arc_value w) c.index-dictionaries-k.result in
    let column = c.in_ok-joined_column.field-0 in
    let below : k < length fields = omega (arith, c.loop-k-test.true, count-words fields dictionaries c.requires.dictionaries) in
    let many : 1 ≤ length views = omega (arith, c.requires.some, length-map c.args.batches.now (λ (b : Shared). arc_value b), AllZip-long (IsColumnOf k) batches views c.in_ok-views.ensures) in
    let is : IsJoined o views column = subst (λ l. IsJoined o l column) c.deref.ensures.value c.in_ok-joined_column.ensures in
    record {
      columns =
          columns-more fields (together (tables_of c.args.batches.now)) k column c.loop-k.columns.items c.push.new.self.items below c.loop-k.invariant.columns
          (column-made fields words batches views k o column below c.requires.under c.in_ok-views.ensures many is) c.in_ok-push.ensures.items;
      fronts =
          zipped-more NamesFront words k o column c.loop-k.columns.items c.push.new.self.items (omega (arith, c.loop-k-test.true, length-map dictionaries (option_map (λ (w : SharedWords). arc_value w))))
          (words-at dictionaries k c.index-dictionaries-k.result c.loop-k-test.true c.index-dictionaries-k.is) c.loop-k.invariant.fronts is.front c.in_ok-push.ensures.items;
    }

pub under-requires : goal.under-requires
under-requires c =
    let fields = arc_value c.args.schema.now in
    let t = together (tables_of c.args.batches.now) in
    let columns = c.loop-k.columns.items in
    let all = columns-all fields t c.loop-k.k columns (omega (arith, c.loop-k-test.false, count-words fields c.args.dictionaries.now c.requires.dictionaries)) c.loop-k.invariant.columns in
    ap (λ (l : List FieldShape). batch_fault l c.rows_in.result columns) c.in_ok-clone.ensures.cases
    ∙ ap (λ n. batch_fault fields n columns) c.rows_in.ensures
    ∙ columns-lawful fields t columns all c.requires.few

pub returns-clause-rows : goal.returns-clause-rows
returns-clause-rows c =
    let fields = arc_value c.args.schema.now in
    let batches = map (λ (b : Shared). arc_value b) c.args.batches.now in
    let t = together (tables_of c.args.batches.now) in
    let columns = c.loop-k.columns.items in
    let all = columns-all fields t c.loop-k.k columns (omega (arith, c.loop-k-test.false, count-words fields c.args.dictionaries.now c.requires.dictionaries)) c.loop-k.invariant.columns in
    batch-rows fields (words_of c.args.dictionaries.now) batches c.under.result c.requires.under
    (subst (λ (b : Batch). AllZip (Rattle.compaction.proofs.JoinedLemmas.IsColumn t) (Rattle.std.specs.List.enumerate_from 0 fields) b.columns) (sym c.under.ensures) all)
    (ap (λ (b : Batch). b.rows) c.under.ensures ∙ c.rows_in.ensures)

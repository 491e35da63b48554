use Rattle.std.proofs.Common.{◌∙◌, List, ap, map, refl, subst, take, arith}
use Rattle.std.proofs.lemmas.List.{length-map}
use Rattle.std.proofs.lemmas.Result.{err_from_is_err_and}
use Rattle.std.specs.Arc.{arc_value}
use Rattle.arrays.specs.Prelude.{FieldShape}
use Rattle.arrow_json.specs.Prelude.{file_of}
use Rattle.embed.specs.Prelude.{StopsFiles, all_batches}
use Rattle.reports.proofs.FaultLemmas.{or_memory}
use Rattle.reports.specs.FileBatches.{batch_of, table_fields}
use Rattle.table.specs.Prelude.{Contents, IsLegal}
use Rattle.embed.proofs.LoadLemmas.{adds_all, adds_next, is_refused, listed, value_at}
use Rattle.embed.proofs.loading.add_file.Goals as goal

pub loop-number-preserved : goal.loop-number-preserved
loop-number-preserved c =
    let files = map file_of c.args.files.now in
    let at = c.loop-number in
    let b = c.deref.result.now in
    let new = c.add_batch.new.table in
    let there = value_at arc_value c.batches-batches.result.now at.number c.index-batches-number.result b c.loop-number-test.true c.index-batches-number.is c.deref.ensures in
    let fields = ap (λ (t : Contents). t.fields) c.in_ok-add_batch.ensures.added ∙ at.invariant.fields in record {
      fields = fields;
      loaded = adds_next (map arc_value c.batches-batches.result.now) at.number b at.table there (all_batches (take c.args.place files)) (table_fields files) new at.invariant.fields at.invariant.loaded
          c.in_ok-add_batch.ensures.allowed c.in_ok-add_batch.ensures.added (subst (λ (fs : List FieldShape). IsLegal fs new.history) fields c.add_batch.ensures.legal);
    }

pub returns-in_err-add_batch-clause-err : goal.returns-in_err-add_batch-clause-err
returns-in_err-add_batch-clause-err c =
    let files = c.args.files.now in
    let f = c.index-files-place.result in
    let bs = map arc_value c.batches-batches.result.now in
    let at = c.loop-number in
    let b = c.deref.result.now in
    let there = value_at arc_value c.batches-batches.result.now at.number c.index-batches-number.result b c.loop-number-test.true c.index-batches-number.is c.deref.ensures in
    let found = value_at file_of files c.args.place f (file_of f) c.requires.place c.index-files-place.is refl in
    let all = listed files c.args.place f bs c.requires.under c.requires.place c.index-files-place.is c.batches-batches.ensures.value in
    let e = err_from_is_err_and c.from_residual.result c.from_residual.ensures.1 in
    rw (e.1, e.2)
    (or_memory _ (StopsFiles (map file_of files)) (is_refused bs at.number b at.table there (map file_of files) c.args.place (file_of f) found all at.invariant.fields at.invariant.loaded) _ c.in_err-add_batch.ensures.err)

pub returns-clause-loaded : goal.returns-clause-loaded
returns-clause-loaded c =
    let files = c.args.files.now in
    let f = c.index-files-place.result in
    let bs = map arc_value c.batches-batches.result.now in
    let at = c.loop-number in
    adds_all (map file_of files) c.args.place (file_of f) (map batch_of bs) at.number (table_fields (map file_of files)) at.table.history
    (value_at file_of files c.args.place f (file_of f) c.requires.place c.index-files-place.is refl)
    (listed files c.args.place f bs c.requires.under c.requires.place c.index-files-place.is c.batches-batches.ensures.value)
    (omega (arith, c.loop-number-test.false, length-map bs batch_of, length-map c.batches-batches.result.now arc_value)) at.invariant.loaded

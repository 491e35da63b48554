use Rattle.std.proofs.Common.{Bor, List, inr, map, subst, sym, ℕ}
use Rattle.std.proofs.lemmas.Result.{err_from_is_err_and}
use Rattle.std.specs.List.{AllZip}
use Rattle.arrays.specs.Prelude.{FieldShape, File}
use Rattle.arrow_json.specs.Prelude.{Reads, file_of}
use Rattle.embed.specs.Prelude.{AddsAll, StopsFiles, StopsTexts, all_batches}
use Rattle.reports.proofs.FaultLemmas.{or_memory}
use Rattle.embed.proofs.loaded.Loaded.open.Goals as goal

pub returns-clause-ok : goal.returns-clause-ok
returns-clause-ok c =
    let state = c.in_ok-state.state in
    let files = map file_of c.deref.result.now in record {
      files = files;
      read = subst (λ (fs : List File). AllZip Reads (map (λ (t : Bor (List ℕ)). t.now) c.args.texts.now) (map file_of fs)) (sym c.deref.ensures.value) c.in_ok-files.ensures.read;
      opened = c.in_ok-state.ensures.fields;
      loaded = subst (λ (fs : List FieldShape). AddsAll (all_batches files) fs state.history) (sym c.in_ok-state.ensures.fields) c.in_ok-state.ensures.loaded;
    }

pub returns-in_err-state-clause-err : goal.returns-in_err-state-clause-err
returns-in_err-state-clause-err c =
    let texts = map (λ (t : Bor (List ℕ)). t.now) c.args.texts.now in
    let files = map file_of c.deref.result.now in
    let read = subst (λ (fs : List File). AllZip Reads texts (map file_of fs)) (sym c.deref.ensures.value) c.in_ok-files.ensures.read in
    let e = err_from_is_err_and c.from_residual-in_err-state.result c.from_residual-in_err-state.ensures.1 in
    rw (e.1, e.2) (or_memory (StopsFiles files) (StopsTexts texts) (λ fault stops. inr (files, read, stops)) _ c.in_err-state.ensures.err)

use mir.Syntax.{erased}
use Rattle.std.proofs.Common.{◌∙◌, inl, subst, sym}
use Rattle.std.proofs.lemmas.Result.{IfErr-weaker, IfOk-weaker}
use Rattle.loads.specs.Prelude.{AreRun, batches_of_files}
use Rattle.loads.proofs.RunLemmas.{all_loaded, all_newest}
use Rattle.loads.proofs.SendingLemmas.{gated-sync}
use Rattle.loads.specs.contracts.loading.load_all.{P-row}
use Rattle.loads.proofs.loading.load_all.Goals as goal

pub run_files-requires-sync-A : goal.run_files-requires-sync-A
run_files-requires-sync-A g c κs within =
    let P = P-row g.row.N g.row.P g.row.W g.row.T g.row.G in
    record {
      shared = (gated-sync g.row.N P g.N.Naming-1 g.N.Naming-2 g.P.Publish c.type_bounds.send-P
          (record { mir = erased; lft = _ }) g.row.W g.row.G (record { shared = c.type_bounds.sync-W.shared }) (record { shared = c.type_bounds.sync-G.shared })).shared;
    }

pub returns : goal.returns
returns g c =
    let files = batches_of_files c.args.files.now in
    let old = c.args.workers.now in
    let new = c.run_files.new.workers in
    let outcomes = c.deref.result.now in
    let run = subst (AreRun files old new) (sym c.deref.ensures.value) c.run_files.ensures in
    let r = c.receipts_of.result in
    let ok = c.receipts_of.ensures.ok in record {
      loaded = IfOk-weaker r _ _ (λ v is. all_loaded files old new outcomes run is.0) ok;
      receipts = IfOk-weaker r _ _ (λ v is. (outcomes, run, is.1)) ok;
      newest = IfOk-weaker r _ _ (λ v is. is.1 ∙ all_newest files old new outcomes run is.0) ok;
      err = IfErr-weaker r _ _ (λ e is. inl (outcomes, run, is)) c.receipts_of.ensures.err;
    }

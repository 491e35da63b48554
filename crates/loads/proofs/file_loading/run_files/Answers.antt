use mir.Syntax.{erased}
use Rattle.std.proofs.Common.{◌∙◌, ◌++◌, ap, map, subst, sym}
use Rattle.loads.specs.Prelude.{AreRun, batches_of_files, outcome_of}
use Rattle.loads.proofs.RunLemmas.{are_run}
use Rattle.loads.proofs.SendingLemmas.{loading-sync}
use Rattle.loads.proofs.file_loading.run_files.Goals as goal

pub run_all-requires-sync-J : goal.run_all-requires-sync-J
run_all-requires-sync-J g c κs within = record { shared = (loading-sync (record { mir = erased; lft = _ }) g.row.A (record { shared = c.type_bounds.sync-A.shared })).shared }

pub returns : goal.returns
returns g c =
    let files = batches_of_files c.args.files.now in
    let mid = c.run_all.new.hands in
    subst (AreRun files c.args.workers.now c.take_outcomes.new.workers) (sym (c.take_outcomes.ensures.outcomes ∙ ap (λ os. os ++ map outcome_of mid) c.requires.empty))
    (are_run files c.args.workers.now mid c.take_outcomes.new.workers c.run_all.auto.hands c.run_all.ensures c.take_outcomes.ensures.taken)

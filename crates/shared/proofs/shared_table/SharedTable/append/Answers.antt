use Rattle.shared.proofs.SeenLemmas.{added_raised, err_all, err_each, fewer, ok_all, seen_kept}
use Rattle.shared.proofs.shared_table.SharedTable.append.Goals as goal

pub returns-clause-raised : goal.returns-clause-raised
returns-clause-raised g c = ok_all c.append.result (added_raised c.args.batch.now c.args.worker.now c.append.new.worker) c.append.ensures.appended

pub returns-clause-kept : goal.returns-clause-kept
returns-clause-kept g c = err_all c.append.result (seen_kept c.args.worker.now c.append.new.worker) c.append.ensures.seen

pub returns-clause-cause : goal.returns-clause-cause
returns-clause-cause g c = err_each c.append.result (λ e is. fewer is) c.append.ensures.cause

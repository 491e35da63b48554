use Rattle.select.proofs.ListLemmas.{full_of_all, past-left}
use Rattle.select.proofs.gather.lists.Spread.push.Goals as goal

pub returns-in_err-push_run-in-Some-clause-err : goal.returns-in_err-push_run-in-Some-clause-err
returns-in_err-push_run-in-Some-clause-err c =
    full_of_all c.from_residual.result c.in_err-push_run-in-Some.field-0.0 _ _ c.from_residual.ensures.1 c.in_err-push_run-in-Some.ensures.err
    (past-left c.args.self.now.rows c.args.range (c.in-Some.start, c.in-Some.count) _ c.in-Some.is)

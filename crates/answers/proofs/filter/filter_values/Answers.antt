use Rattle.query.specs.QueryShape.{query_shape}
use Rattle.evaluate.specs.Slices.{AreFilterValues, IsFilterStop}
use Rattle.answers.specs.Runs.{AreVerdicts, StopsAt}
use Rattle.answers.proofs.RunLemmas.{are_verdicts, if_err, if_ok, stops_at}
use Rattle.answers.proofs.filter.filter_values.Goals as goal

pub returns-clause-ok : goal.returns-clause-ok
returns-clause-ok c =
    let s = c.args.slice in
    let f = (query_shape c.args.query.now).filter in
    if_ok c.evaluate_filter.result (AreFilterValues s.batch.now s.start s.len f) (AreVerdicts s.batch.now s.start s.len f) (are_verdicts s.batch.now s.start s.len f) c.evaluate_filter.ensures.ok

pub returns-clause-err : goal.returns-clause-err
returns-clause-err c =
    let s = c.args.slice in
    let f = (query_shape c.args.query.now).filter in
    if_err c.evaluate_filter.result (IsFilterStop s.batch.now s.start s.len f) (StopsAt s.batch.now s.start s.len f) (stops_at s.batch.now s.start s.len f) c.evaluate_filter.ensures.err

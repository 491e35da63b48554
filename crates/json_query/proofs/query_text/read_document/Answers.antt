use Rattle.json_base.proofs.JsonResults.{error_kept}
use Rattle.json_query.proofs.Readings.{both_left, both_right}
use Rattle.json_query.proofs.query_text.read_document.Goals as goal

pub returns-in_err-by-clause-err : goal.returns-in_err-by-clause-err
returns-in_err-by-clause-err c = error_kept _ _ _ c.from_residual-in_err-by.ensures.1 (rw c.in_ok-check_object.ensures.ok (both_right _ _ _ _ (both_left _ _ _ _ c.in_err-by.ensures.err)))

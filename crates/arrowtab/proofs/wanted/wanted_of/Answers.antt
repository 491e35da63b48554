use Rattle.std.proofs.Common.{refl, subst}
use Rattle.std.proofs.lemmas.Result.{err_from_is_err_and}
use Rattle.table.specs.Prelude.{named}
use Rattle.arrow_json.specs.Prelude.{ReadsQueryText}
use Rattle.reports.proofs.FaultLemmas.{or_memory}
use Rattle.reports.specs.Prelude.{IsUnreadQuery, OrMemory}
use Rattle.arrowtab.proofs.AnswerLemmas.{text_unread}
use Rattle.arrowtab.proofs.wanted.wanted_of.Goals as goal

pub returns-in_ok-read-in-Query-clause-ok : goal.returns-in_ok-read-in-Query-clause-ok
returns-in_ok-read-in-Query-clause-ok c =
    let read = c.in_ok-read-in-Query.read in
    rw c.in-Query.is (read, refl, subst (λ b. ReadsQueryText b (named read)) c.text.ensures c.in_ok-read-in-Query.ensures.ok)

pub returns-in_err-read-in-Query-clause-err : goal.returns-in_err-read-in-Query-clause-err
returns-in_err-read-in-Query-clause-err c =
    let fault = c.in_err-read-in-Query.field-0.0 in
    let p = err_from_is_err_and c.from_residual.result c.from_residual.ensures.1 in
    rw (p.1, p.2)
    (or_memory _ _ (text_unread c.args.command.now c.in-Query.query c.in-Query.output c.in-Query.is) fault (subst (λ b. OrMemory (IsUnreadQuery b) fault) c.text.ensures c.in_err-read-in-Query.ensures.err))

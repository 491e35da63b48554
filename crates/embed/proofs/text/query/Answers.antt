use Rattle.std.proofs.Common.{Bor, List, inl, inr, map, ℕ}
use Rattle.std.proofs.lemmas.Result.{IfErr-weaker, err_from_is_err_and}
use Rattle.table.specs.Prelude.{named}
use Rattle.reports.proofs.FaultLemmas.{or_memory}
use Rattle.reports.specs.QueryFaults.{IsUnanswered}
use Rattle.embed.specs.Prelude.{StopsQuery, StopsTexts}
use Rattle.embed.proofs.text.query.Goals as goal

pub returns-in_err-open-clause-err : goal.returns-in_err-open-clause-err
returns-in_err-open-clause-err c =
    let texts = map (λ (t : Bor (List ℕ)). t.now) c.args.texts.now in
    let p = err_from_is_err_and c.from_residual-in_err-open.result c.from_residual-in_err-open.ensures.1 in
    rw (p.1, p.2)
    (or_memory (StopsTexts texts) (StopsQuery c.args.query_text.now texts) (λ e why. inr (inr ((named c.in_ok-read.read, c.in_ok-read.ensures.ok), why))) c.in_err-open.field-0.0 c.in_err-open.ensures.err)

pub returns-clause-err : goal.returns-clause-err
returns-clause-err c =
    let texts = map (λ (t : Bor (List ℕ)). t.now) c.args.texts.now in
    let read = named c.in_ok-read.read in
    let state = c.in_ok-open.field-0.state in
    let stops = or_memory (IsUnanswered read state.fields state.history) (StopsQuery c.args.query_text.now texts)
    (λ e why. inr (inl (read, c.in_ok-read.ensures.ok, record { fields = state.fields; history = state.history; holds = c.in_ok-open.ensures.ok; is = why }))) in
    IfErr-weaker c.groups.result _ _ stops c.groups.ensures.err

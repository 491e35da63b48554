use Rattle.std.proofs.Common.{◌≡◌, ◌∙◌, ◌⊎◌, Some, ap, string_bytes, subst}
use Rattle.std.proofs.lemmas.Result.{IfErr-weaker, IfOk-weaker}
use Rattle.embed.specs.Prelude.{IsAnswered, NoMemory, PrintsAnswer, StopsAnswer, StopsQuery}
use Rattle.selqumar.specs.Handle.{IsOpenOver, table_in}
use Rattle.selqumar.proofs.StatusLemmas.{answers-files, leaves-answer, stops-files}
use Rattle.selqumar.proofs.opened.selqumar_open_query.Goals as goal

pub returns-in-Table-clause-of_files : goal.returns-in-Table-clause-of_files
returns-in-Table-clause-of_files c =
    λ texts over.
    let query = c.args.query.now in
    let t = c.in-Table.table.state in
    let holds = subst (IsOpenOver texts) (ap table_in (c.get_mut.ensures.value ∙ ap (λ p. Some p) c.in-Table.is)) over in
    leaves-answer c.query.result (IsAnswered query texts) (StopsQuery query texts)
    (IfOk-weaker c.query.result (λ s. PrintsAnswer query t.fields t.history (string_bytes s)) (λ s. IsAnswered query texts (string_bytes s)) (λ s. answers-files query texts t holds (string_bytes s)) c.query.ensures.ok)
    (IfErr-weaker c.query.result (λ e. (e ≡ NoMemory) ⊎ StopsAnswer query t.fields t.history e) (λ e. (e ≡ NoMemory) ⊎ StopsQuery query texts e) (stops-files query texts t holds) c.query.ensures.err)
    _ _ _ _ _ c.put.ensures.leaves

use Rattle.std.proofs.lemmas.Result.{IfErr-weaker}
use Rattle.table.specs.Prelude.{named}
use Rattle.reports.proofs.FaultLemmas.{or_memory}
use Rattle.reports.specs.QueryFaults.{IsUnanswered}
use Rattle.arrowtab.specs.Wanted.{IsUnprinted}
use Rattle.arrowtab.proofs.answer.output_of.Goals as goal

pub returns-in-Groups-clause-err : goal.returns-in-Groups-clause-err
returns-in-Groups-clause-err g c =
    let v = c.args.version.now in
    let unprinted = or_memory (IsUnanswered (named c.in-Groups.query) v.fields v.history) (IsUnprinted c.args.wanted.now v.fields v.history) (λ e why. (c.in-Groups.query, c.in-Groups.output, c.in-Groups.is, why)) in
    IfErr-weaker c.groups_text.result _ _ unprinted c.groups_text.ensures.err

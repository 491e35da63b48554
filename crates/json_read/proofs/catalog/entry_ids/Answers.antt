use Rattle.std.proofs.Common.{◌≡◌, Ok, arith, rules}
use Rattle.std.specs.Int.{w128}
use Rattle.std.specs.Prelude.{FitsSigned}
use Rattle.std.proofs.lemmas.Int.{to_z-of_z}
use Rattle.std.specs.Result.{MatchResult, IsErrAnd}
use Rattle.json_read.specs.Prelude.{HasId, NoId}
use Rattle.json_base.specs.FaultAt.{IsUnder}
use Rattle.json_base.specs.declared.path.Step.TheVariants as step
use Rattle.json_base.proofs.JsonTells.{tells_item_at}
use Rattle.json_base.proofs.JsonItems.{each_pushed, each_done}
use Rattle.json_base.proofs.JsonResults.{value_kept, error_made}
use Rattle.json_read.proofs.catalog.entry_ids.Goals as goal

pub returns-in_err-id-clause-err : goal.returns-in_err-id-clause-err
returns-in_err-id-clause-err c =
    let cases : MatchResult c.entry_id-read.result (λ y. c.map_err.result ≡ Ok y) (λ e. IsErrAnd c.map_err.result (IsUnder (step.Item c.loop-index.index-counter) e)) = search rules in
    error_made _ _ _ _ _ _ _ cases c.in_err-id.was c.entry_id-read.ensures.err c.from_residual.ensures.1
    (λ _ reported under. tells_item_at NoId _ _ _ _ _ reported (omega arith) c.index-entries-index.is under)

pub loop-index-preserved : goal.loop-index-preserved
loop-index-preserved c =
    let id = value_kept _ _ c.entry_id-read.result c.map_err.result c.in_ok-id.id c.map_err.ensures.cases c.in_ok-id.was c.entry_id-read.ensures.ok in
    let fits : FitsSigned w128 c.in_ok-id.id = search rules in
    rw (c.in_ok-push.ensures.ok, to_z-of_z) (each_pushed HasId _ _ _ _ _ c.loop-index.invariant (omega arith) c.index-entries-index.is id)

pub returns-clause-ok : goal.returns-clause-ok
returns-clause-ok c = each_done _ _ _ _ c.loop-index.invariant (omega arith)

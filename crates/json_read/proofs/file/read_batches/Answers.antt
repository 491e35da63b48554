use Rattle.std.proofs.Common.{◌≡◌, ◌∙◌, [], ◌∷◌, Ok, map, ap, arith, rules}
use Rattle.std.proofs.lemmas.List.{map-append}
use Rattle.std.specs.Arc.{arc_value}
use Rattle.std.specs.Result.{MatchResult, IsErrAnd}
use Rattle.json_base.specs.FaultAt.{IsUnder}
use Rattle.json_base.specs.declared.path.Step.TheVariants as step
use Rattle.json_base.proofs.JsonItems.{each_done}
use Rattle.json_read.proofs.JsonFiles.{tells_batch, batch_pushed, AreUnder-push}
use Rattle.json_base.proofs.JsonResults.{value_kept, error_made}
use Rattle.json_read.proofs.file.read_batches.Goals as goal

pub loop-index-preserved : goal.loop-index-preserved
loop-index-preserved c =
    let reads = value_kept _ _ c.read_shared-read.result c.map_err.result c.in_ok-batch.batch c.map_err.ensures.cases c.in_ok-batch.was c.read_shared-read.ensures.ok in
    let fields = value_kept _ _ c.read_shared-read.result c.map_err.result c.in_ok-batch.batch c.map_err.ensures.cases c.in_ok-batch.was c.read_shared-read.ensures.fields in
    let grown = ap (map arc_value) c.in_ok-push.ensures.ok ∙ map-append arc_value c.loop-index.batches.items (c.in_ok-batch.batch ∷ []) in record {
      read = rw grown (batch_pushed _ _ _ _ _ _ _ c.loop-index.invariant.read (omega arith) c.index-values-index.is reads);
      under = AreUnder-push _ _ _ _ c.loop-index.invariant.under fields grown;
    }

pub returns-in_err-batch-clause-err : goal.returns-in_err-batch-clause-err
returns-in_err-batch-clause-err c =
    let cases : MatchResult c.read_shared-read.result (λ y. c.map_err.result ≡ Ok y) (λ e. IsErrAnd c.map_err.result (IsUnder (step.Item c.loop-index.index-counter) e)) = search rules in
    error_made _ _ _ _ _ _ _ cases c.in_err-batch.was c.read_shared-read.ensures.err c.from_residual.ensures.1
    (λ _ reported under. tells_batch _ _ _ _ _ _ _ reported (omega arith) c.index-values-index.is under)

pub returns-clause-ok : goal.returns-clause-ok
returns-clause-ok c = each_done _ _ _ _ c.loop-index.invariant.read (omega arith)

use Rattle.std.proofs.Common.{◌≡◌, ◌<◌, Ok, length, arith, rules}
use Rattle.std.specs.Result.{MatchResult, IsErrAnd}
use Rattle.json_base.specs.FaultAt.{IsUnder}
use Rattle.json_base.specs.declared.path.Step.TheVariants as step
use Rattle.json_read.proofs.JsonBatches.{catalog_count, columns_pushed, encoded_field_at, tells_column}
use Rattle.json_base.proofs.JsonResults.{value_kept, error_made}
use Rattle.json_read.proofs.batch.read_columns.Goals as goal

pub bounds-catalog-index : goal.bounds-catalog-index
bounds-catalog-index c = omega (arith, catalog_count _ _ c.requires.catalog)

pub read_coded-read-requires-clause-encoded : goal.read_coded-read-requires-clause-encoded
read_coded-read-requires-clause-encoded c =
    let many : c.loop-index.index-counter < length c.args.catalog.now = omega (arith, catalog_count _ _ c.requires.catalog) in
    encoded_field_at _ _ _ _ _ c.requires.catalog (omega arith) c.index-fields-index.is many c.index-catalog-index.is

pub loop-index-preserved : goal.loop-index-preserved
loop-index-preserved c =
    let many : c.loop-index.index-counter < length c.args.catalog.now = omega (arith, catalog_count _ _ c.requires.catalog) in
    let column = value_kept _ _ c.read_coded-read.result c.map_err.result c.in_ok-column.column c.map_err.ensures.cases c.in_ok-column.was c.read_coded-read.ensures.ok in
    rw c.in_ok-push.ensures.ok (columns_pushed _ _ _ _ _ _ _ _ _ _ c.loop-index.invariant (omega arith) c.index-fields-index.is many c.index-catalog-index.is (omega (arith, c.requires.whole)) c.index-values-index.is column)

pub returns-in_err-column-clause-err : goal.returns-in_err-column-clause-err
returns-in_err-column-clause-err c =
    let many : c.loop-index.index-counter < length c.args.catalog.now = omega (arith, catalog_count _ _ c.requires.catalog) in
    let cases : MatchResult c.read_coded-read.result (λ y. c.map_err.result ≡ Ok y) (λ e. IsErrAnd c.map_err.result (IsUnder (step.Item c.loop-index.index-counter) e)) = search rules in
    error_made _ _ _ _ _ _ _ cases c.in_err-column.was c.read_coded-read.ensures.err c.from_residual.ensures.1
    (λ _ reported under. tells_column _ _ _ _ _ _ _ _ _ _ reported (omega arith) c.index-fields-index.is many c.index-catalog-index.is (omega (arith, c.requires.whole)) c.index-values-index.is under)

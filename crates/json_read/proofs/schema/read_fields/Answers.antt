use Rattle.std.proofs.Common.{◌≡◌, ◌∷◌, [], Ok, arith, option_map, rules}
use Rattle.std.proofs.lemmas.List.{map-append}
use Rattle.std.specs.Result.{MatchResult, IsErrAnd}
use Rattle.json_base.specs.FaultAt.{IsUnder}
use Rattle.json_base.specs.declared.path.Step.TheVariants as step
use Rattle.json_read.specs.Prelude.{HasEncoding, ReadsField, TopFault, parts_of}
use Rattle.json_base.proofs.JsonTells.{tells_item_at}
use Rattle.json_base.proofs.JsonItems.{each_pushed, each_done}
use Rattle.json_read.proofs.JsonFields.{fields_of-push}
use Rattle.json_base.proofs.JsonResults.{value_kept, error_made}
use Rattle.json_read.proofs.schema.read_fields.Goals as goal

pub returns-in_err-top-clause-err : goal.returns-in_err-top-clause-err
returns-in_err-top-clause-err c =
    let cases : MatchResult c.read_top-read.result (λ y. c.map_err.result ≡ Ok y) (λ e. IsErrAnd c.map_err.result (IsUnder (step.Item c.loop-index.index-counter) e)) = search rules in
    error_made _ _ _ _ _ _ _ cases c.in_err-top.was c.read_top-read.ensures.err c.from_residual.ensures.1
    (λ _ reported under. tells_item_at TopFault _ _ _ _ _ reported (omega arith) c.index-values-index.is under)

pub loop-index-preserved : goal.loop-index-preserved
loop-index-preserved c =
    let field = value_kept _ _ c.read_top-read.result c.map_err.result c.in_ok-top.top c.map_err.ensures.cases c.in_ok-top.was c.read_top-read.ensures.ok in
    let encoding = value_kept _ _ c.read_top-read.result c.map_err.result c.in_ok-top.top c.map_err.ensures.cases c.in_ok-top.was c.read_top-read.ensures.encoding in record {
      fields = rw (c.in_ok-push.ensures.ok, fields_of-push) (each_pushed ReadsField _ _ _ _ _ c.loop-index.invariant.fields (omega arith) c.index-values-index.is field);
      encodings = rw (c.in_ok-push-2.ensures.ok, map-append (option_map parts_of) c.loop-index.encodings.items (c.in_ok-top.top.encoding ∷ []))
          (each_pushed HasEncoding _ _ _ _ _ c.loop-index.invariant.encodings (omega arith) c.index-values-index.is encoding);
    }

pub returns-clause-ok : goal.returns-clause-ok
returns-clause-ok c = each_done _ _ _ _ c.loop-index.invariant.fields (omega arith)

pub returns-clause-encodings : goal.returns-clause-encodings
returns-clause-encodings c = each_done _ _ _ _ c.loop-index.invariant.encodings (omega arith)

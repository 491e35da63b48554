use Rattle.std.proofs.Common.{subst, sym}
use Rattle.json_base.specs.Prelude.{items_view, view}
use Rattle.json_read.specs.JsonFields.{ReadsSchema}
use Rattle.json_read.proofs.JsonSchemas.{schema_fault-read}
use Rattle.json_base.proofs.JsonResults.{value_kept}
use Rattle.json_read.proofs.schema.read_schema.Goals as goal

pub share_schema-requires : goal.share_schema-requires
share_schema-requires c =
    schema_fault-read _ _ (value_kept _ _ c.read_fields-read.result c.map_err.result c.in_ok-top.top c.map_err.ensures.cases c.in_ok-top.was c.read_fields-read.ensures.ok)

pub returns-clause-ok : goal.returns-clause-ok
returns-clause-ok c =
    let each = value_kept _ _ c.read_fields-read.result c.map_err.result c.in_ok-top.top c.map_err.ensures.cases c.in_ok-top.was c.read_fields-read.ensures.ok in
    subst (ReadsSchema (view c.args.schema.now)) (sym c.in_ok-shared.ensures.ok) record { fields = (items_view c.in_ok-values.values.now, c.in_ok-values.ensures.ok, each) }

pub returns-clause-encodings : goal.returns-clause-encodings
returns-clause-encodings c = record {
  fields = items_view c.in_ok-values.values.now;
  listed = c.in_ok-values.ensures.ok;
  each = value_kept _ _ c.read_fields-read.result c.map_err.result c.in_ok-top.top c.map_err.ensures.cases c.in_ok-top.was c.read_fields-read.ensures.encodings;
}
